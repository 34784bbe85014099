use Rattle.std.proofs.Common.{ℕ, ◌<◌, List, length, get_or, take, sym, ap, ◌∙◌, subst}
use Rattle.std.proofs.lemmas.List.{take_more}
use Rattle.accounts.specs.Meaning.{with_entry}
use Rattle.layers.specs.Tray.{entries_kept}
use Rattle.layers.specs.Staged.{with_kept, EntersAll}
use Rattle.layers.proofs.Kept.{granted, kept_push, enters_push}
use Rattle.layers.proofs.staged.Staged.hand_down.Goals as goal

pub loop-i-preserved : goal.loop-i-preserved
loop-i-preserved g c =
    let k = g.K.Kind in
    let a = g.A.Account in
    let first = c.args.self.now.below in
    let ps = entries_kept c.take-tray.result in
    let i = c.loop-i.i in
    let p = get_or ps i 0 in
    let l : i < length ps = rw c.count-i-end.ensures at c.loop-i-test.true in
    let more = sym (take_more ps i 0 l) in
    record {
      below = subst (λ (qs : List ℕ). EntersAll a.enters first qs c.post.new.self) more (enters_push a.enters first c.loop-i.self.below c.post.new.self (take i ps) p c.loop-i.invariant.below (rw c.entry.ensures at c.in_ok-post.ensures.leaves));
      after =
          rw c.entry.ensures at (c.post.ensures.after ∙ granted k c.entry.result _ c.post.ensures.answer c.in_ok-post.was)
          ∙ ap (with_entry (k.worth p)) c.loop-i.invariant.after
          ∙ sym (kept_push k.worth (a.meaning first) (take i ps) p)
          ∙ ap (λ (qs : List ℕ). with_kept k.worth qs (a.meaning first)) more;
      none = c.loop-i.invariant.none;
    }

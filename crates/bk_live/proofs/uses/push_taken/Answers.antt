use Rattle.std.proofs.Common.{◌≡◌, ℕ, Some, get_or}
use Rattle.std.specs.List.{Contains}
use Rattle.std.proofs.lemmas.Option.{slice_get-get_or}
use Rattle.bk_live.specs.declared.uses.Use.{Use}
use Rattle.bk_live.specs.Adds.{Some_of}
use Rattle.bk_live.specs.Uses.{IsTakenAt}
use Rattle.bk_live.proofs.Adding.{adds_same, before_none, before_more, before_all}
use Rattle.bk_live.proofs.Listing.{taken_is}
use Rattle.bk_live.proofs.uses.push_taken.Goals as goal

pub loop-arg-init : goal.loop-arg-init
loop-arg-init c = before_none (Contains c.args.uses.now.items) c.args.args.now (λ (k n : ℕ) (u : Use). (c.args.spot ≡ Some u.spot) × (u.value ≡ n))

pub loop-arg-preserved : goal.loop-arg-preserved
loop-arg-preserved c =
    let ns = c.args.args.now in
    let i = c.loop-arg.arg-index in
    before_more (Contains c.args.uses.now.items) (Contains c.loop-arg.uses.items) (Contains c.push_at.new.uses.items) ns (λ (k n : ℕ) (u : Use). (c.args.spot ≡ Some u.spot) × (u.value ≡ n)) i
    (get_or ns i 0) (slice_get-get_or ns i 0 c.loop-arg-test.true) c.loop-arg.invariant c.in_ok-push_at.ensures

pub returns : goal.returns
returns c =
    let ns = c.args.args.now in
    let R : ℕ → ℕ → Use → Type 0 = λ (k n : ℕ) (u : Use). (c.args.spot ≡ Some u.spot) × (u.value ≡ n) in
    adds_same (Contains c.args.uses.now.items) (Some_of ns R) (IsTakenAt c.args.spot ns) (Contains c.loop-arg.uses.items) (λ u. taken_is c.args.spot ns u)
    (before_all (Contains c.args.uses.now.items) (Contains c.loop-arg.uses.items) ns R c.loop-arg.arg-index c.loop-arg-test.false c.loop-arg.invariant)

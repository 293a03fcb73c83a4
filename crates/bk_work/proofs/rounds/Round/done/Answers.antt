use Rattle.std.proofs.Common.{◌≡◌, ℕ, List, Bor, Result, Ok, Err, Vec, Global, ap, subst, sym}
use Rattle.std.specs.Prelude.{IfOk}
use Rattle.std.specs.List.{Contains}
use Rattle.bk_func.specs.Records.{PackageRecord}
use Rattle.bk_ops.specs.declared.types.Target.{Target}
use Rattle.bk_share.specs.Passes.{announced_in, view}
use Rattle.bk_work.specs.declared.items.Done.{Done}
use Rattle.bk_work.specs.declared.rounds.Job.{Job}
use Rattle.bk_work.specs.declared.rounds.Job.TheVariants.{Emit}
use Rattle.bk_work.specs.Rounds.{Entry, Holds, IsAt, IsDone, IsSecond, entries_in}
use Rattle.bk_work.proofs.Announcing.{entry_keys}
use Rattle.bk_work.proofs.rounds.Round.done.Goals as goal

seconds : {E : Type 0} (pkg : PackageRecord) (t : Target) (job : Job) (places : Vec ℕ Global) (lowered : Bor (List Entry)) (P : Holds) (f : ℕ) (e : Entry) (r : Result Done E)
    → job ≡ Emit places lowered → IsAt places.items lowered.now f e → IfOk r (IsSecond pkg t P e) → IfOk r (IsDone pkg t job P f)
seconds pkg t job places lowered P f e (Ok d) is at h = subst (λ (j : Job). IsDone pkg t j P f d) (sym is) (e, at, h)
seconds pkg t job places lowered P f e (Err m) is at h = tt

pub emitted-requires-clause-keys : goal.emitted-requires-clause-keys
emitted-requires-clause-keys c =
    let r = c.args.self.now in let at = c.in-Some.ensures in
    entry_keys r.job (announced_in r.share) c.in-Emit.lowered.now at.0 c.in-Some.entry.now r.announced_are r.keys_are (ap entries_in c.in-Emit.is) at.2

pub returns-in-Some-clause-done : goal.returns-in-Some-clause-done
returns-in-Some-clause-done c =
    let r = c.args.self.now in
    seconds r.pkg.now r.target r.job c.in-Emit.places c.in-Emit.lowered (Contains (view c.emitted.new.pass).known) c.args.func c.in-Some.entry.now c.emitted.result c.in-Emit.is
    (subst (λ (ps : List ℕ). IsAt ps c.in-Emit.lowered.now c.args.func c.in-Some.entry.now) c.deref.ensures.value c.in-Some.ensures) c.emitted.ensures.done

use Rattle.std.proofs.Common.{refl}
use Rattle.bk_func.specs.Meaning.{first_fault}
use Rattle.bk_func.specs.Effects.{order}
use Rattle.bk_places.proofs.Elements.{to_contains}
use Rattle.bk_sched.proofs.Agreeing.{no_round, own_numbers}
use Rattle.bk_sched.proofs.Ending.{same_end}
use Rattle.bk_sched.proofs.laws.faults_as_the_meaning.Goals as goal

pub returns : goal.returns
returns c s f b zs n t m window formed none has scheduled =
    same_end f none b has zs (record { own = own_numbers s f formed b has; alone = λ v i. no_round s f formed none b has v (to_contains v b.values i); scheduled = scheduled }) n t m window
    (first_fault t m window (order f b n)) refl

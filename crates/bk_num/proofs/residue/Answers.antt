use Rattle.std.proofs.Common.{arith}
use Rattle.std.specs.Int.{w128}
use Rattle.std.proofs.lemmas.Nat.{one_shl}
use Rattle.std.proofs.lemmas.Int.{to_z-of_z}
use Rattle.bk_num.proofs.Residues.{residue_is}
use Rattle.bk_num.proofs.residue.Goals as goal

pub returns : goal.returns
returns c = rw (one_shl c.args.w 128 (omega arith)) (rw c.cast_unsigned.ensures (rw (to_z-of_z w128 c.args.value c.ranges.value) (residue_is c.args.w c.args.value (omega arith) c.ranges.value)))

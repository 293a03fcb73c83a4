-- Where the words of a result stand.
use Rattle.std.proofs.Common.{◌≡◌, ℕ, ◌+◌, ◌*◌, ◌≤◌, ◌<◌, List, length, take, get_or, subst, arith, Bool, true, false}
use Rattle.std.specs.Prelude.{if◌then◌else◌}
use Rattle.bk_ops.specs.declared.types.Ty.{Ty}
use Rattle.bk_ops.specs.declared.types.Ty.TheVariants.{Bool as Truth}
use Rattle.bk_ops.specs.declared.types.Target.TheVariants.{Arm}
use Rattle.bk_func.specs.Records.{SigRecord}
use Rattle.bk_func.specs.Words.{is_double, count_words}
use Rattle.bk_func.proofs.Arguments.{count_words_more}
use Rattle.bk_arm_sim.specs.Signature.{words_of_sig}

bytes_of : (b : Bool) (n m : ℕ) → n + (if b then 2 else 1) ≤ m → 4 * n + (if b then 8 else 4) ≤ 4 * m
bytes_of true n m h = omega arith
bytes_of false n m h = omega arith

-- the words a of the arguments, the words b of the results before a place, and the result there
pub words_within : (sig : SigRecord) (index a b : ℕ) (args results : List Ty) → args ≡ sig.args → results ≡ sig.results → a ≡ count_words Arm args → b ≡ count_words Arm (take index results) → index < length sig.results → 4 * (a + b) + (if is_double Arm (get_or sig.results index Truth) then 8 else 4) ≤ 4 * words_of_sig sig
words_within sig index a b args results p q e f h =
    let more = count_words_more Arm sig.results index Truth h in
    let before : a ≡ count_words Arm sig.args = subst (λ l. a ≡ count_words Arm l) p e in
    let behind : b ≡ count_words Arm (take index sig.results) = subst (λ l. b ≡ count_words Arm (take index l)) q f in
    bytes_of (is_double Arm (get_or sig.results index Truth)) (a + b) (words_of_sig sig) (omega arith)

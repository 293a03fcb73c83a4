-- The functions of a package, one more at a time.
use Rattle.std.proofs.Common.{◌≡◌, ℕ, ◌+◌, List, [], ◌∷◌, ◌++◌, length, take, sym, subst, arith}
use Rattle.bk_ops.specs.declared.types.Target.{Target}
use Rattle.bk_func.specs.Records.{FuncRecord, PackageRecord}
use Rattle.bk_work.specs.declared.refusals.Cause.{Cause}
use Rattle.bk_work.specs.declared.refusals.Refusal.{Refusal}
use Rattle.bk_work.specs.Framed.{FramedRecord, IsMade}
use Rattle.bk_work.specs.Package.{AreOutcomes, none_left, in_frame, refused, refusal}
use Rattle.bk_work.specs.Refused.{IsRefused}
use Rattle.bk_work.specs.Rules.{RulesRecord}

pub none_yet : (pkg : PackageRecord) (t : Target) (rules : RulesRecord) (fs : List FuncRecord) (its : List FramedRecord) (rs : List Refusal) → its ≡ [] → rs ≡ []
    → AreOutcomes pkg t rules 0 (take 0 fs) its rs
none_yet pkg t rules fs its rs no_its no_rs =
    subst (λ xs. AreOutcomes pkg t rules 0 [] xs rs) (sym no_its) (subst (λ xs. AreOutcomes pkg t rules 0 [] [] xs) (sym no_rs) (none_left 0))

pub one_made : (pkg : PackageRecord) (t : Target) (rules : RulesRecord) (n : ℕ) (fs : List FuncRecord) (its : List FramedRecord) (rs : List Refusal) (f : FuncRecord) (it : FramedRecord)
    → AreOutcomes pkg t rules n fs its rs → IsMade pkg t rules f it → AreOutcomes pkg t rules n (fs ++ f ∷ []) (its ++ it ∷ []) rs
one_made pkg t rules _ _ _ _ f it (none_left n) h = in_frame n f [] it [] [] h (none_left (n + 1))
one_made pkg t rules _ _ _ _ f it (in_frame n g fs x its rs m rest) h =
    in_frame n g (fs ++ f ∷ []) x (its ++ it ∷ []) rs m (one_made pkg t rules (n + 1) fs its rs f it rest h)
one_made pkg t rules _ _ _ _ f it (refused n g fs cause its rs m rest) h =
    refused n g (fs ++ f ∷ []) cause (its ++ it ∷ []) rs m (one_made pkg t rules (n + 1) fs its rs f it rest h)

pub one_refused : (pkg : PackageRecord) (t : Target) (rules : RulesRecord) (n place : ℕ) (fs : List FuncRecord) (its : List FramedRecord) (rs : List Refusal) (f : FuncRecord) (cause : Cause)
    → AreOutcomes pkg t rules n fs its rs → place ≡ n + length fs → IsRefused pkg t rules f cause
    → AreOutcomes pkg t rules n (fs ++ f ∷ []) its (rs ++ refusal place cause ∷ [])
one_refused pkg t rules _ place _ _ _ f cause (none_left n) at h =
    let here : n ≡ place = omega arith in
    subst (λ p. AreOutcomes pkg t rules n (f ∷ []) [] (refusal p cause ∷ [])) here (refused n f [] cause [] [] h (none_left (n + 1)))
one_refused pkg t rules _ place _ _ _ f cause (in_frame n g fs x its rs m rest) at h =
    in_frame n g (fs ++ f ∷ []) x its (rs ++ refusal place cause ∷ []) m (one_refused pkg t rules (n + 1) place fs its rs f cause rest (omega arith) h)
one_refused pkg t rules _ place _ _ _ f cause (refused n g fs why its rs m rest) at h =
    refused n g (fs ++ f ∷ []) why its (rs ++ refusal place cause ∷ []) m (one_refused pkg t rules (n + 1) place fs its rs f cause rest (omega arith) h)

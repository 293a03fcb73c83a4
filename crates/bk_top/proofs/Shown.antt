-- The numbers of a line.
use Rattle.std.proofs.Common.{◌≡◌, ℕ, ◌≤◌, List, [], ◌∷◌, ◌++◌, length, drop, ap, ◌∙◌, sym, refl, append-nil}
use Rattle.std.proofs.Math.ListN.{drop_of_length-le}
use Rattle.bk_ops.specs.declared.types.Target.{Target}
use Rattle.bk_ops.specs.declared.types.Ty.{Ty}
use Rattle.bk_top.specs.Outcomes.{shown_all}

shown_none : (target : Target) (types : List Ty) → shown_all target types [] ≡ []
unfolding shown_all
shown_none target [] = refl
shown_none target (type ∷ types) = refl

-- where no number is left, nothing more is told
pub shown_end : (target : Target) (types : List Ty) (numbers : List ℕ) (i : ℕ) (so_far whole : List ℕ) → length numbers ≤ i → so_far ++ shown_all target types (drop i numbers) ≡ whole → so_far ≡ whole
shown_end target types numbers i so_far whole past h =
    sym (ap (λ ns. so_far ++ shown_all target types ns) (drop_of_length-le numbers {i = i} past) ∙ ap (λ t. so_far ++ t) (shown_none target types) ∙ append-nil so_far) ∙ h

-- Where no value is taken from a slot there are no slots.
use Rattle.std.proofs.Common.{◌≡◌, ℕ, refl, ◌∙◌, subst, arith, List, [], ◌∷◌, length}
use Rattle.std.specs.List.{Contains}
use Rattle.bk_ops.specs.declared.types.Target.{Target}
use Rattle.bk_func.specs.Records.{PlacedBlockRecord}
use Rattle.bk_alloc.specs.Blocks.{PartRecord}
use Rattle.bk_alloc.specs.Placing.{values_in_slots}
use Rattle.bk_alloc.specs.Placement.{IsPlacing}

none_at_all : (hs : List ℕ) → ((v : ℕ) → Contains hs v → ⊥) → length hs ≡ 0
none_at_all [] h = refl
none_at_all (x ∷ hs) h = absurd (h x (0, omega arith, refl))

pub nowhere : (v : ℕ) → Contains {X = ℕ} [] v → ⊥
nowhere v c = let l = c.1 in absurd (omega (arith, l))

pub no_slots : (t : Target) (ps : List PartRecord) (bs : List PlacedBlockRecord) (slots : ℕ) → IsPlacing t ps bs slots → values_in_slots ps ≡ [] → slots ≡ 0
no_slots t ps bs slots h e = h.count ∙ none_at_all h.homes (λ v c. nowhere v (subst (λ (l : List ℕ). Contains l v) e ((h.are.each v).0 c)))

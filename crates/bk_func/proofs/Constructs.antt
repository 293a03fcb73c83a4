-- The least refused number, block by block and value by value.
use Rattle.std.proofs.Common.{◌≡◌, ℕ, Bool, true, false, refl, ap, ◌∙◌, sym, List, [], ◌∷◌, map, filter, flat_map, fold, Option, None, if◌then◌else◌}
use Rattle.std.proofs.lemmas.List.Sums.{fold-append}
use Rattle.bk_ops.specs.declared.types.Target.{Target}
use Rattle.bk_ops.specs.Refused.{is_refused}
use Rattle.bk_func.specs.Records.{ValueRecord, BlockRecord, FuncRecord}
use Rattle.bk_func.specs.Construct.{refused_among, lesser, sooner, first_construct}

-- one value, refused or not, before others
step : (b : Bool) (g : Option ℕ) (v : ValueRecord) (vs : List ValueRecord) →
    fold lesser (if b then lesser g v.id else g) (map (λ u. u.id) vs) ≡ fold lesser g (map (λ u. u.id) (if b then v ∷ vs else vs))
step true g v vs = refl
step false g v vs = refl

among : (t : Target) (g : Option ℕ) (vs : List ValueRecord) → fold (sooner t) g vs ≡ fold lesser g (refused_among t vs)
among t g [] = refl
among t g (v ∷ vs) = among t (sooner t g v) vs ∙ step (is_refused v.op v.int t) g v (filter (λ u. is_refused u.op u.int t) vs)

blocks : (t : Target) (g : Option ℕ) (bs : List BlockRecord) → fold (λ g b. fold (sooner t) g b.values) g bs ≡ fold lesser g (flat_map (λ b. refused_among t b.values) bs)
blocks t g [] = refl
blocks t g (b ∷ bs) =
    blocks t (fold (sooner t) g b.values) bs
    ∙ (ap (λ h. fold lesser h (flat_map (λ b. refused_among t b.values) bs)) (among t g b.values)
    ∙ sym (fold-append lesser g (refused_among t b.values) (flat_map (λ b. refused_among t b.values) bs)))

pub least_among : (t : Target) (f : FuncRecord) → fold (λ g b. fold (sooner t) g b.values) None f.blocks ≡ first_construct f t
least_among t f = blocks t None f.blocks

-- Blocks that are allocated one after the other.
use Rattle.std.proofs.Common.{◌≡◌, ◌∙◌, sym, ap, refl, ℕ, ◌+◌, ◌<◌, List, [], ◌∷◌, length, take, get_or, Option, Some, None}
use Rattle.std.specs.List.{cons_option, filter_map, fold}
use Rattle.std.specs.Option.{option_to_list}
use Rattle.std.proofs.lemmas.Grind.{fold-append}
use Rattle.std.proofs.lemmas.List.{take_more}
use Rattle.std.proofs.lemmas.List.Elements.{filter_map-append}
use Rattle.bk_alloc.specs.Blocks.{Next, PartRecord, PlanRecord, allot, with_part}

pub allot_none : (next : Next) (count : ℕ) → allot next count [] ≡ []
unfolding allot
allot_none next count = refl

one_planned : (h : ℕ → Option PlanRecord) (n : ℕ) (o : Option PlanRecord) → h n ≡ o → filter_map h (n ∷ []) ≡ option_to_list o
one_planned h n None e = ap (λ (p : Option PlanRecord). cons_option p []) e
one_planned h n (Some b) e = ap (λ (p : Option PlanRecord). cons_option p []) e

pub allot_more : (next : Next) (count : ℕ) (h : ℕ → Option PlanRecord) (ns : List ℕ) (i : ℕ) (ps new : List PartRecord) (o : Option PlanRecord) → i < length ns
    → o ≡ h (get_or ns i 0) → ps ≡ allot next count (filter_map h (take i ns)) → new ≡ fold (with_part next count) ps (option_to_list o)
    → new ≡ allot next count (filter_map h (take (i + 1) ns))
unfolding allot
allot_more next count h ns i ps new o l is before after =
    let add = with_part next count in
    let n = get_or ns i 0 in
    after ∙ (ap (λ (qs : List PartRecord). fold add qs (option_to_list o)) before
    ∙ (ap (fold add (fold add [] (filter_map h (take i ns)))) (sym (one_planned h n o (sym is)))
    ∙ (sym (fold-append add [] (filter_map h (take i ns)) (filter_map h (n ∷ [])))
    ∙ ap (fold add []) (sym (ap (filter_map h) (take_more ns i 0 l) ∙ filter_map-append h (take i ns) (n ∷ []))))))

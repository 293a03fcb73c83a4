-- The listed uses and edges are those of the function.
use Rattle.std.proofs.Common.{◌≡◌, ◌∙◌, sym, refl, ap, subst, ℕ, zero, suc, ◌<◌, ◌≤◌, ◌⊎◌, List, [], ◌∷◌, length, get_or, map, Option, None, Some, inl, inr, ⊎_elim, arith}
use Rattle.std.specs.List.{Contains, filter_map, slice_get}
use Rattle.std.specs.Option.{IsSome, option_map}
use Rattle.std.proofs.lemmas.Bool.{cases_lt, false≢true}
use Rattle.std.proofs.lemmas.List.{get_or_past, get_or-map, length-map}
use Rattle.std.proofs.lemmas.List.Elements.{Contains-append_cases, Contains-append_left, Contains-append_right, filter_map-append}
use Rattle.std.proofs.lemmas.Option.{get_or_from_slice_get, none-some, same_Some, slice_get_within}
use Rattle.bk_func.specs.Records.{BlockRecord, FuncRecord}
use Rattle.bk_live.specs.declared.homes.Spot.{Spot}
use Rattle.bk_live.specs.declared.uses.Use.{Use}
use Rattle.bk_live.specs.Edges.{AreBackward, onward}
use Rattle.bk_live.specs.Homes.{ArePlaces, spot, end_of}
use Rattle.bk_live.specs.Live.{HasSuccessor, IsEntry, IsOrdered, IsUsedAt}
use Rattle.bk_live.specs.Prepared.{IsPrepared}
use Rattle.bk_live.specs.Seen.{LeadBack, LeadOn}
use Rattle.bk_live.specs.Uses.{end_behind}
use Rattle.bk_live.proofs.Alone.{at_contains, at_some, block_alone, contains_at, entry_alone}

pub the_some : {A : Type 0} (o : Option A) → IsSome o → (x : A) × (o ≡ Some x)
the_some None s = absurd (false≢true s)
the_some (Some x) s = (x, refl)

-- the spot of an entry
pub home_is : {f : FuncRecord} {os : List (List ℕ)} {h : ℕ → Option Spot} {p : ℕ → Option ℕ} {us : List Use} → IsPrepared f os h p us → (i k x : ℕ) → IsEntry os i k x
    → h x ≡ Some (spot i k)
home_is {f} {os} {h} {p} {us} r i k x e =
    let (s, is) = the_some (h x) (r.homes.there i k x e) in
    let (a, b) = entry_alone f os r.given s.block i s.entry k x (r.homes.right x s is) e in
    is ∙ subst (λ (j : ℕ). Some s ≡ Some (spot j k)) a (subst (λ (l : ℕ). Some s ≡ Some (spot s.block l)) b refl)

-- the place of a block
pub place_is : (f : FuncRecord) (os : List (List ℕ)) (p : ℕ → Option ℕ) → IsOrdered f os → ArePlaces f.blocks p → (i : ℕ) (b : BlockRecord) → slice_get f.blocks i ≡ Some b → p b.id ≡ Some i
place_is f os p given places i b e =
    let (q, is) = the_some (p b.id) (places.there i b e) in
    let (c, at, same) = places.right b.id q is in
    is ∙ ap Some (block_alone f os given q i c b at e same)

-- the end of the block at the place
end_split : (os : List (List ℕ)) (o : Option ℕ) (s : Spot) → option_map (end_of os) o ≡ Some s → (q : ℕ) × (o ≡ Some q) × (end_of os q ≡ s)
end_split os None s e = absurd (none-some s e)
end_split os (Some q) s e = (q, refl, same_Some (end_of os q) s e)

pub used_to : {f : FuncRecord} {os : List (List ℕ)} {h : ℕ → Option Spot} {p : ℕ → Option ℕ} {us : List Use} → IsPrepared f os h p us → (u : Use) → Contains us u
    → IsUsedAt f os u.value u.spot.block u.spot.entry
used_to {f} {os} {h} {p} {us} r u c =
    let (i, b, at, uses) = (r.uses u).0 c in
    ⊎_elim
    (λ (control, end).
    subst (λ (s : Spot). IsUsedAt f os u.value s.block s.entry) end (inr (refl, (b, at, inl control))))
    (λ (v, hv, how). ⊎_elim
    (λ (phi, (j, q, pred, arg, end)).
    let (k, is, same) = end_split os (p q) u.spot end in
    let (d, ad, id) = r.places.right q k is in
    subst (λ (s : Spot). IsUsedAt f os u.value s.block s.entry) same
    (inr (refl, (d, ad, inr (b, v, j, (contains_at f.blocks i b at, hv), phi, pred ∙ ap Some (sym id), arg)))))
    (λ (plain, (here', arg)).
    inl (v.id, r.homes.right v.id u.spot here', (b, v, (contains_at f.blocks i b at, hv), refl, plain, arg)))
    how)
    uses

pub used_from : {f : FuncRecord} {os : List (List ℕ)} {h : ℕ → Option Spot} {p : ℕ → Option ℕ} {us : List Use} → IsPrepared f os h p us → (n i k : ℕ)
    → IsUsedAt f os n i k → Contains us (record { value = n; spot = spot i k })
used_from {f} {os} {h} {p} {us} r n i k used = ⊎_elim
    (λ (x, entry, (b, v, (hb, hv), id, plain, arg)).
    let (j, at) = at_contains f.blocks b hb in
    let home : h v.id ≡ Some (spot i k) = ap h id ∙ home_is r i k x entry in
    (r.uses (record { value = n; spot = spot i k })).1 (j, b, at, inr (v, hv, inr (plain, (home, arg)))))
    (λ (end, (b, at, how)).
    let last : end_of os i ≡ spot i k = ap (spot i) (sym end) in
    ⊎_elim
    (λ control. (r.uses (record { value = n; spot = spot i k })).1 (i, b, at, inl (control, last)))
    (λ (s, v, j, (hs, hv), phi, pred, arg).
    let (m, am) = at_contains f.blocks s hs in
    let behind : end_behind os p b.id ≡ Some (spot i k) = ap (option_map (end_of os)) (place_is f os p r.given r.places i b at) ∙ ap Some last in
    (r.uses (record { value = n; spot = spot i k })).1 (m, s, am, inr (v, hv, inl (phi, (j, b.id, pred, arg, behind)))))
    how)
    used

none_in : (q : ℕ) → Contains [] q → ⊥
none_in q (k, l, e) = absurd (omega arith)

in_more : (x : ℕ) (xs : List ℕ) (y : ℕ) → Contains (x ∷ xs) y → (x ≡ y) ⊎ Contains xs y
in_more x xs y (zero, l, e) = inl e
in_more x xs y (suc k, l, e) = inr (k, omega arith, e)

-- what a map gives of some numbers
to_filter : (m : ℕ → Option ℕ) (ns : List ℕ) (n q : ℕ) → Contains ns n → m n ≡ Some q → Contains (filter_map m ns) q
to_filter m [] n q c e = absurd (none_in n c)
to_filter m (x ∷ ns) n q c e =
    subst (λ (us : List ℕ). Contains us q) (sym (filter_map-append m (x ∷ []) ns))
    (⊎_elim
    (λ (same : x ≡ n). Contains-append_left (filter_map m (x ∷ [])) (filter_map m ns) q (subst (λ (o : Option ℕ). Contains (filter_map m (x ∷ [])) q) e (one (m x) refl same)))
    (λ rest. Contains-append_right (filter_map m (x ∷ [])) (filter_map m ns) q (to_filter m ns n q rest e))
    (in_more x ns n c))
  where
    one : (o : Option ℕ) → m x ≡ o → x ≡ n → Contains (filter_map m (x ∷ [])) q
    one None none same = absurd (none-some q (sym none ∙ (ap m same ∙ e)))
    one (Some r) some same = rw some (0, omega arith, same_Some r q (sym some ∙ (ap m same ∙ e)))

single : (r q : ℕ) → Contains (r ∷ []) q → r ≡ q
single r q c = ⊎_elim (λ same. same) (λ none. absurd (none_in q none)) (in_more r [] q c)

from_filter : (m : ℕ → Option ℕ) (ns : List ℕ) (q : ℕ) → Contains (filter_map m ns) q → (n : ℕ) × Contains ns n × (m n ≡ Some q)
from_filter m [] q c = absurd (none_in q c)
from_filter m (x ∷ ns) q c = ⊎_elim
    (λ first. one (m x) refl first)
    (λ rest. let (n, (k, l, e), is) = from_filter m ns q rest in (n, (suc k, omega arith, e), is))
    (Contains-append_cases (filter_map m (x ∷ [])) (filter_map m ns) q (subst (λ (us : List ℕ). Contains us q) (filter_map-append m (x ∷ []) ns) c))
  where
    one : (o : Option ℕ) → m x ≡ o → Contains (filter_map m (x ∷ [])) q → (n : ℕ) × Contains (x ∷ ns) n × (m n ≡ Some q)
    one None none first = absurd (none_in q (rw none at first))
    one (Some r) some first = (x, (0, omega arith, refl), some ∙ ap Some (single r q (rw some at first)))

-- edges lead from blocks to their predecessors
pub lead_back : (f : FuncRecord) (os : List (List ℕ)) (p : ℕ → Option ℕ) (es : List (List ℕ)) → IsOrdered f os → ArePlaces f.blocks p → AreBackward f.blocks p es → LeadBack f es
lead_back f os p es given places back = record {
  size = back.size;
  edge = λ i j. (
    (λ e.
        let (l, (a, at, (m, c, is))) = (back.edge j i).0 e in
        let (b, ab, id) = places.right m j is in
        (a, b, at, ab, subst (λ (k : ℕ). Contains a.succs k) (sym id) c)),
    (λ (a, b, at, ab, c). (back.edge j i).1 (slice_get_within f.blocks j b ab, (a, at, (b.id, c, place_is f os p given places j b ab)))),
  );
}

-- and on to their successors
pub lead_on : (f : FuncRecord) (os : List (List ℕ)) (p : ℕ → Option ℕ) (es : List (List ℕ)) → IsOrdered f os → ArePlaces f.blocks p → es ≡ map (onward p) f.blocks → LeadOn f es
lead_on f os p es given places on i j = (to, back)
  where
    at : (b : BlockRecord) → slice_get f.blocks i ≡ Some b → get_or es i [] ≡ filter_map p b.succs
    at b e = ap (λ us. get_or us i []) on ∙ (get_or-map (onward p) f.blocks i b [] (slice_get_within f.blocks i b e) ∙ ap (onward p) (get_or_from_slice_get f.blocks i b b e))

    to : Contains (get_or es i []) j → HasSuccessor f i j
    to c = ⊎_elim
        (λ (inside : i < length f.blocks).
        let (a, e) = at_some f.blocks i inside in
        let (n, k, is) = from_filter p a.succs j (subst (λ (us : List ℕ). Contains us j) (at a e) c) in
        let (b, ab, id) = places.right n j is in
        (a, b, e, ab, subst (λ (m : ℕ). Contains a.succs m) (sym id) k))
        (λ (past : length f.blocks ≤ i).
        absurd (none_in j (subst (λ (us : List ℕ). Contains us j) (get_or_past es i [] (omega (arith, ap length on, length-map f.blocks (onward p)))) c)))
        (cases_lt i (length f.blocks))

    back : HasSuccessor f i j → Contains (get_or es i []) j
    back (a, b, e, ab, k) = subst (λ (us : List ℕ). Contains us j) (sym (at a e)) (to_filter p a.succs b.id j k (place_is f os p given places j b ab))

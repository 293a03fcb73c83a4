-- The critical edges of a function in form are edges, and are few.
use Rattle.std.proofs.Common.{◌≡◌, ◌∙◌, sym, refl, ap, subst, ℕ, zero, suc, ◌+◌, ◌*◌, ◌<◌, ◌≤◌, ◌==◌, ◌^◌, Bool, true, false, if◌then◌else◌, nat_lt, List, [], ◌∷◌, length, get_or, Some, IsSome, ⊎_elim, arith, zero-add}
use Rattle.std.specs.Prelude.{slice_index}
use Rattle.std.specs.List.{find, position_or_len, count_by, Contains, flat_map}
use Rattle.std.proofs.lemmas.Bool.{cases_order, eq-eqb, lt-ltb}
use Rattle.std.proofs.lemmas.List.Concat.{length-flat_map, flat_map-cons}
use Rattle.std.proofs.lemmas.List.Elements.{Contains-get_or, Contains-append_right, Contains-append_cases}
use Rattle.std.proofs.lemmas.List.Folds.{find_at}
use Rattle.std.proofs.lemmas.List.Sums.{passes_at_first, sum_by-le}
use Rattle.std.proofs.lemmas.Option.{slice_get-get_or}
use Rattle.bk_func.specs.Records.{BlockRecord, FuncRecord}
use Rattle.bk_func.specs.Edits.{greatest_block, place_of, IsEdge}
use Rattle.bk_func.specs.Form.Parts.{IsBlockNumber}
use Rattle.bk_graph.specs.Joined.{IsJoined}
use Rattle.bk_graph.specs.Critical.{EdgeRecord, AreEdges, has_several, edge_at, edges_from, critical_in, critical_edges}
use Rattle.bk_graph.proofs.Listed.{two_counted, counted_at}
use Rattle.bk_graph.proofs.Splitting.{edge_of}

contains_flat : {A B : Type 0} (h : A → List B) (xs : List A) (y : B) → Contains (flat_map h xs) y → (x : A) × Contains xs x × Contains (h x) y
contains_flat {A} {B} h [] y (k, l, e) = absurd (omega (arith, l))
contains_flat {A} {B} h (x ∷ xs) y c = ⊎_elim
    (λ (here : Contains (h x) y). (x, (0, omega arith, refl), here))
    (λ (there : Contains (flat_map h xs) y).
    let (z, i, j) = contains_flat h xs y there in (z, Contains-append_right (x ∷ []) xs z i, j))
    (Contains-append_cases (h x) (flat_map h xs) y (subst (λ ys. Contains ys y) (flat_map-cons h x xs) c))

only_one : {A : Type 0} (x y : A) → Contains (x ∷ []) y → y ≡ x
only_one x y (zero, l, e) = sym e
only_one x y (suc k, l, e) = absurd (omega (arith, l))

abbrev IsOneOf : ℕ → ℕ → ℕ → EdgeRecord → Type 0
IsOneOf from i n e = (k : ℕ) × (k < n) × (e ≡ edge_at from (i + k))

later : (from i n : ℕ) (e : EdgeRecord) → IsOneOf from (i + 1) n e → IsOneOf from i (suc n) e
later from i n e (k, l, r) = (suc k, omega (arith, l), r ∙ ap (edge_at from) (omega arith))

one_from : (bs : List BlockRecord) (from i : ℕ) (ns : List ℕ) (e : EdgeRecord) → Contains (edges_from bs from i ns) e → IsOneOf from i (length ns) e
one_from bs from i [] e (k, l, r) = absurd (omega (arith, l))
one_from bs from i (n ∷ ns) e c = elim (has_several (find (λ b. b.id == n) bs)) as
    (λ t. Contains (if t then edge_at from i ∷ edges_from bs from (i + 1) ns else edges_from bs from (i + 1) ns) e → IsOneOf from i (suc (length ns)) e) [
      | true ↦ λ d. ⊎_elim
          (λ (here : Contains (edge_at from i ∷ []) e). (0, omega arith, only_one (edge_at from i) e here ∙ ap (edge_at from) (omega arith)))
          (λ (there : Contains (edges_from bs from (i + 1) ns) e). later from i (length ns) e (one_from bs from (i + 1) ns e there))
          (Contains-append_cases (edge_at from i ∷ []) (edges_from bs from (i + 1) ns) e d)
      | false ↦ λ d. later from i (length ns) e (one_from bs from (i + 1) ns e d)
    ] c

one_in : (bs : List BlockRecord) (b : BlockRecord) (e : EdgeRecord) → Contains (critical_in bs b) e → IsOneOf b.id 0 (length b.succs) e
one_in bs b e c = elim (nat_lt 1 (length b.succs)) as
    (λ t. Contains (if t then edges_from bs b.id 0 b.succs else []) e → IsOneOf b.id 0 (length b.succs) e) [
      | true ↦ λ d. one_from bs b.id 0 b.succs e d
      | false ↦ λ (k, l, r). absurd (omega (arith, l))
    ] c

-- the one block with its number is found by it
pub sole_found : (bs : List BlockRecord) (b : BlockRecord) → count_by (λ c. c.id == b.id) bs ≡ 1 → Contains bs b → find (λ c. c.id == b.id) bs ≡ Some b
sole_found bs b one (k, l, r) =
    let p : BlockRecord → Bool = λ c. c.id == b.id in
    let q : ℕ = position_or_len p bs in
    let within : q < length bs = counted_at p bs (omega arith) in
    let found = passes_at_first p bs b within in
    let own : p (get_or bs k b) ≡ true = eq-eqb (get_or bs k b).id b.id (ap (λ (c : BlockRecord). c.id) r) in
    let same : q ≡ k = ⊎_elim (λ (e : q ≡ k). e) (λ apart. ⊎_elim
    (λ (below : q < k). let t = two_counted p bs q k b below l found own in absurd (omega arith))
    (λ (above : k < q). let t = two_counted p bs k q b above within own found in absurd (omega arith))
    apart)
    (cases_order q k) in
    find_at p bs ∙ slice_get-get_or bs q b within ∙ ap (λ j. Some (get_or bs j b)) same ∙ ap Some r

pub numbered : (f : FuncRecord) (n : ℕ) → IsBlockNumber f n → IsSome (place_of f n)
unfolding IsBlockNumber
numbered f n h =
    let p : BlockRecord → Bool = λ b. b.id == n in
    let within : position_or_len p f.blocks < length f.blocks = counted_at p f.blocks (omega arith) in
    rw (lt-ltb (position_or_len p f.blocks) (length f.blocks) within) refl

pub counted_once : (f : FuncRecord) (n : ℕ) → IsBlockNumber f n → count_by (λ b. b.id == n) f.blocks ≡ 1
unfolding IsBlockNumber
counted_once f n h = h

pub critical_are_edges : (f : FuncRecord) → IsJoined f → AreEdges f (critical_edges f)
critical_are_edges f g e c =
    let (b, i, j) = contains_flat (critical_in f.blocks) f.blocks e c in
    let (k, l, r) = one_in f.blocks b e j in
    subst (λ (x : EdgeRecord). IsEdge f x.from x.index) (sym (r ∙ ap (edge_at b.id) (zero-add k)))
    (edge_of f b.id k b (sole_found f.blocks b (counted_once f b.id (g.own b i)) i) l (numbered f (slice_index b.succs k) (g.named b i k 0 l)))

-- how many they are

few_from : (bs : List BlockRecord) (from i : ℕ) (ns : List ℕ) → length (edges_from bs from i ns) ≤ length ns
few_from bs from i [] = omega arith
few_from bs from i (n ∷ ns) =
    let h = few_from bs from (i + 1) ns in
    elim (has_several (find (λ b. b.id == n) bs)) as
    (λ t. length (if t then edge_at from i ∷ edges_from bs from (i + 1) ns else edges_from bs from (i + 1) ns) ≤ suc (length ns))
    [ true ↦ omega (arith, h) | false ↦ omega (arith, h) ]

few_in : (bs : List BlockRecord) (b : BlockRecord) → length (critical_in bs b) ≤ length b.succs
few_in bs b =
    let h = few_from bs b.id 0 b.succs in
    elim (nat_lt 1 (length b.succs)) as (λ t. length (if t then edges_from bs b.id 0 b.succs else []) ≤ length b.succs)
    [ true ↦ h | false ↦ omega arith ]

few_edges : (f : FuncRecord) → IsJoined f → length (critical_edges f) ≤ length f.blocks * 2
few_edges f g =
    subst (λ n. n ≤ length f.blocks * 2) (sym (length-flat_map (critical_in f.blocks) f.blocks))
    (sum_by-le (λ b. length (critical_in f.blocks b)) 2 f.blocks
    (λ k d l.
    let b : BlockRecord = get_or f.blocks k d in
    let few : length b.succs ≤ 2 = g.few b (Contains-get_or f.blocks k d l) in
    let less = few_in f.blocks b in
    omega (arith, few, less)))

pub enough_numbers : (f : FuncRecord) → IsJoined f → greatest_block f + length (critical_edges f) < 2 ^ 32
enough_numbers f g = enough (greatest_block f) (length (critical_edges f)) (length f.blocks) (few_edges f g) g.room
  where
    enough : (a b c : ℕ) → b ≤ c * 2 → a + c * 2 < 2 ^ 32 → a + b < 2 ^ 32
    enough a b c m n = omega arith

-- What is kept of the results of calls, one value after the other.
use Rattle.std.proofs.Common.{◌≡◌, ℕ, zero, suc, ◌+◌, ◌<◌, ◌==◌, refl, ap, sym, ◌∙◌, subst, arith, ◌⊎◌, inl, inr, List, [], ◌∷◌, ◌++◌, length, map, take, append_assoc, append-nil, Option, Some, None, Bool, true, false, cond, get_or, set, eq-eqb, ne_eqb}
use Rattle.std.specs.Prelude.{if◌then◌else◌, filter, flat_map}
use Rattle.std.proofs.lemmas.Bool.{cases_eq}
use Rattle.std.proofs.lemmas.List.{take_more, length-map, get_or-map, get_or-set_same, get_or-set_other}
use Rattle.bk_func.specs.Records.{ValueRecord, BlockRecord, FuncRecord}
use Rattle.bk_func.specs.Numbers.{room}
use Rattle.bk_func.specs.Effects.{is_at}
use Rattle.bk_mean.specs.Ready.{call_place, kept_by, results_at, KeepsResults}
use Rattle.bk_mean.specs.declared.ready.Kept.{Kept}
use Rattle.bk_mean.proofs.Prepared.{values_more}

-- what one more value adds
abbrev pub added : FuncRecord → ℕ → ValueRecord → List Kept
added f k v = if is_at (call_place f v) k then kept_by f v ∷ [] else []

results_push : (f : FuncRecord) (k : ℕ) (xs : List ValueRecord) (v : ValueRecord) → results_at f k (xs ++ v ∷ []) ≡ results_at f k xs ++ added f k v
results_push f k [] v = go (is_at (call_place f v) k)
  where
    go : (b : Bool) → map (kept_by f) (cond b (v ∷ []) []) ≡ (if b then kept_by f v ∷ [] else [])
    go true = refl
    go false = refl
results_push f k (x ∷ xs) v = go (is_at (call_place f x) k) (results_push f k xs v)
  where
    go : (b : Bool) → results_at f k (xs ++ v ∷ []) ≡ results_at f k xs ++ added f k v →
        map (kept_by f) (cond b (x ∷ filter (λ u. is_at (call_place f u) k) (xs ++ v ∷ [])) (filter (λ u. is_at (call_place f u) k) (xs ++ v ∷ []))) ≡
        map (kept_by f) (cond b (x ∷ filter (λ u. is_at (call_place f u) k) xs) (filter (λ u. is_at (call_place f u) k) xs)) ++ added f k v
    go true e = ap (λ zs. kept_by f x ∷ zs) e
    go false e = e

pub keeps_more : (f : FuncRecord) (vs : List ValueRecord) (i : ℕ) (v : ValueRecord) (before : List ValueRecord) (old new : List (List Kept)) → i < length vs → v ≡ get_or vs i v → KeepsResults f (before ++ take i vs) old →
    ((k : ℕ) → k < room f → get_or new k [] ≡ get_or old k [] ++ added f k v) → KeepsResults f (before ++ take (i + 1) vs) new
keeps_more f vs i v before old new l e h n = record { each = λ k m. n k m ∙ ap (λ xs. xs ++ added f k v) (h.each k m) ∙ sym (results_push f k (before ++ take i vs) v) ∙ ap (results_at f k) whole }
  where
    whole : (before ++ take i vs) ++ v ∷ [] ≡ before ++ take (i + 1) vs
    whole = append_assoc before (take i vs) (v ∷ []) ∙ ap (λ x. before ++ (take i vs ++ x ∷ [])) e ∙ ap (λ xs. before ++ xs) (sym (take_more vs i v l))

-- a value that is no result adds nothing
pub adds_nothing : (f : FuncRecord) (v : ValueRecord) (o : Option ℕ) (list : List (List Kept)) → o ≡ call_place f v → o ≡ None → (k : ℕ) → get_or list k [] ≡ get_or list k [] ++ added f k v
adds_nothing f v o list e n k =
    let add : Option ℕ → List Kept = λ p. if is_at p k then kept_by f v ∷ [] else [] in
    let x : added f k v ≡ [] = ap add (sym e ∙ n) in
    sym (append-nil (get_or list k [])) ∙ ap (λ xs. get_or list k [] ++ xs) (sym x)

-- a result is added to its call
pub adds_result : (f : FuncRecord) (v : ValueRecord) (o : Option ℕ) (c m : ℕ) (one : Kept) (old new : List (List Kept)) → o ≡ call_place f v → o ≡ Some c → one ≡ kept_by f v →
    ((k : ℕ) → k < m → get_or new k [] ≡ get_or old k [] ++ (if c == k then one ∷ [] else [])) → (k : ℕ) → k < m → get_or new k [] ≡ get_or old k [] ++ added f k v
adds_result f v o c m one old new e s i h k l =
    let add : Option ℕ → List Kept = λ q. if is_at q k then kept_by f v ∷ [] else [] in
    h k l ∙ ap (λ (j : Kept). get_or old k [] ++ (if c == k then j ∷ [] else [])) i ∙ ap (λ (q : Option ℕ). get_or old k [] ++ add q) (sym s ∙ e)

-- one list of a list is written

pub map_set : {A B : Type 0} (g : A → B) (xs : List A) (c : ℕ) (y : A) → map g (set xs c y) ≡ set (map g xs) c (g y)
map_set g [] c y = refl
map_set g (x ∷ xs) zero y = refl
map_set g (x ∷ xs) (suc c) y = ap (λ zs. g x ∷ zs) (map_set g xs c y)

pub kept_at : {A : Type 0} (g : A → List Kept) (xs : List A) (c : ℕ) (x y : A) (p : Kept) → c < length xs → g y ≡ g (get_or xs c x) ++ p ∷ [] →
    (k : ℕ) → k < length xs → get_or (map g (set xs c y)) k [] ≡ get_or (map g xs) k [] ++ (if c == k then p ∷ [] else [])
kept_at {A} g xs c x y p l h k m = ap (λ (zs : List (List Kept)). get_or zs k []) (map_set g xs c y) ∙ go (cases_eq c k)
  where
    n : length (map g xs) ≡ length xs
    n = simp length-map

    go : (c ≡ k) ⊎ (c ≡ k → ⊥) → get_or (set (map g xs) c (g y)) k [] ≡ get_or (map g xs) k [] ++ (if c == k then p ∷ [] else [])
    go (inl d) =
        let same : get_or (map g xs) k [] ≡ g (get_or xs c x) = ap (λ (j : ℕ). get_or (map g xs) j []) (sym d) ∙ get_or-map g xs c x [] l in
        let here : get_or (set (map g xs) c (g y)) k [] ≡ g y = ap (λ (j : ℕ). get_or (set (map g xs) c (g y)) j []) (sym d) ∙ get_or-set_same (map g xs) c (g y) [] (omega (arith, n, l)) in
        let add : Bool → List Kept = λ b. if b then p ∷ [] else [] in
        here ∙ h ∙ ap (λ (zs : List Kept). zs ++ p ∷ []) (sym same) ∙ ap (λ (b : Bool). get_or (map g xs) k [] ++ add b) (sym (eq-eqb c k d))
    go (inr d) =
        let add : Bool → List Kept = λ b. if b then p ∷ [] else [] in
        get_or-set_other (map g xs) c k (g y) [] (λ q. d (sym q)) ∙ sym (append-nil (get_or (map g xs) k [])) ∙ ap (λ (b : Bool). get_or (map g xs) k [] ++ add b) (sym (ne_eqb c k d))

-- the values of one more block
pub keeps_block : (f : FuncRecord) (bs : List BlockRecord) (i : ℕ) (b : BlockRecord) (list : List (List Kept)) → i < length bs → b ≡ get_or bs i b → KeepsResults f (flat_map (λ c. c.values) (take i bs) ++ b.values) list →
    KeepsResults f (flat_map (λ c. c.values) (take (i + 1) bs)) list
keeps_block f bs i b list l e h = (let P : List ValueRecord → Type 0 = λ vs. KeepsResults f vs list in subst P (sym (values_more bs i b l e)) h)

pub keeps_none : (f : FuncRecord) (list : List (List Kept)) → ((k : ℕ) → get_or list k [] ≡ []) → KeepsResults f [] list
keeps_none f list h = record { each = λ k m. h k }

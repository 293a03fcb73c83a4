-- The edges between blocks, found one by one.
use Rattle.std.proofs.Common.{◌≡◌, ◌∙◌, sym, refl, ap, subst, ℕ, ◌+◌, ◌<◌, ◌≤◌, Bool, List, [], ◌∷◌, ◌++◌, map, length, get_or, take, replicate, Option, None, Some, ⊎_elim}
use Rattle.std.specs.List.{Contains, cons_option, filter_map, slice_get}
use Rattle.std.proofs.lemmas.Bool.{cases_lt}
use Rattle.std.proofs.lemmas.List.{take_more, take_all, map-append, length-replicate, get_or-replicate, get_or_past, replicate-append-replicate}
use Rattle.std.proofs.lemmas.List.Elements.{filter_map-append}
use Rattle.std.proofs.lemmas.Option.{none-some, slice_get_read}
use Rattle.bk_func.specs.Records.{BlockRecord, FuncRecord}
use Rattle.bk_form.specs.declared.numbers.Numbers.{Numbers}
use Rattle.bk_form.specs.declared.reach.Rows.{Rows}
use Rattle.bk_form.specs.Numbers.{NumbersOf, block_ids, block_named, sole}
use Rattle.bk_form.specs.Dominators.{IsTree}
use Rattle.bk_form.specs.Rows.{AreRows}
use Rattle.bk_form.specs.Walks.{IsRow}
use Rattle.bk_form.specs.Walks.{block_places, block_edges}

-- one more number is looked at
pub chosen_more : (h : ℕ → Option ℕ) (ns : List ℕ) (i : ℕ) (old new : List ℕ) → i < length ns → old ≡ filter_map h (take i ns) → new ≡ old ++ filter_map h (get_or ns i 0 ∷ [])
    → new ≡ filter_map h (take (i + 1) ns)
chosen_more h ns i old new l before after =
    after ∙ (ap (λ us. us ++ filter_map h (get_or ns i 0 ∷ [])) before
    ∙ sym (ap (filter_map h) (take_more ns i 0 l) ∙ filter_map-append h (take i ns) (get_or ns i 0 ∷ [])))

chosen_alike : (g h : ℕ → Option ℕ) → ((n : ℕ) → g n ≡ h n) → (ns : List ℕ) → filter_map g ns ≡ filter_map h ns
chosen_alike g h same [] = refl
chosen_alike g h same (n ∷ ns) = ap (λ o. cons_option o (filter_map g ns)) (same n) ∙ ap (cons_option (h n)) (chosen_alike g h same ns)

-- one more block is looked at
pub edges_more : (f : FuncRecord) (m : Numbers) → NumbersOf f m → (i : ℕ) (old new : List (List ℕ)) {xs : List BlockRecord} → xs ≡ f.blocks → (b : BlockRecord) → i < length xs
    → b ≡ get_or xs i b → (ss places : List ℕ) → ss ≡ b.succs → places ≡ filter_map (block_named m) ss → old ≡ map (λ (b : BlockRecord). block_places f b.succs) (take i f.blocks)
    → new ≡ old ++ places ∷ [] → new ≡ map (λ (b : BlockRecord). block_places f b.succs) (take (i + 1) f.blocks)
edges_more f m numbers i old new {xs} same b l e ss places succs named before after =
    let g : BlockRecord → List ℕ = λ b. block_places f b.succs in
    let here : b ≡ get_or f.blocks i b = subst (λ (ys : List BlockRecord). b ≡ get_or ys i b) same e in
    let within : i < length f.blocks = subst (λ (ys : List BlockRecord). i < length ys) same l in
    let grown : map g (take (i + 1) f.blocks) ≡ map g (take i f.blocks) ++ g b ∷ [] =
    ap (map g) (take_more f.blocks i b within) ∙ (map-append g (take i f.blocks) (get_or f.blocks i b ∷ []) ∙ ap (λ x. map g (take i f.blocks) ++ g x ∷ []) (sym here)) in
    let is : places ≡ g b = named ∙ (chosen_alike (block_named m) (λ n. sole (block_ids f) n) numbers.block ss ∙ ap (block_places f) succs) in
    after ∙ (ap (λ us. us ++ places ∷ []) before ∙ (ap (λ p. map g (take i f.blocks) ++ p ∷ []) is ∙ sym grown))

pub edges_all : (f : FuncRecord) (i : ℕ) (old : List (List ℕ)) {xs : List BlockRecord} → xs ≡ f.blocks → length xs ≤ i
    → old ≡ map (λ (b : BlockRecord). block_places f b.succs) (take i f.blocks) → old ≡ block_edges f
unfolding block_edges
edges_all f i old {xs} same l before =
    before ∙ ap (map (λ (b : BlockRecord). block_places f b.succs)) (take_all i f.blocks (subst (λ (ys : List BlockRecord). length ys ≤ i) same l))

-- the block of a step
pub block_at : (f : FuncRecord) {xs : List BlockRecord} → xs ≡ f.blocks → (i : ℕ) (b : BlockRecord) → i < length xs → b ≡ get_or xs i b → slice_get f.blocks i ≡ Some b
block_at f {xs} same i b l e = subst (λ (ys : List BlockRecord). slice_get ys i ≡ Some b) same (slice_get_read xs (length xs) i b refl l e)

pub item_in : {A : Type 0} {xs ys : List A} → xs ≡ ys → (i : ℕ) (x : A) → i < length xs → x ≡ get_or xs i x → Contains ys x
item_in {A} {xs} {ys} same i x l e = subst (λ (zs : List A). Contains zs x) same (i, l, sym e)

-- rows of which none is there
pub none_more : (n : ℕ) (old new : List (Option (List Bool))) → old ≡ replicate n None → new ≡ old ++ None ∷ [] → new ≡ replicate (n + 1) None
none_more n old new before after = after ∙ (ap (λ us. us ++ None ∷ []) before ∙ replicate-append-replicate n 1 None)

pub none_rows : (es : List (List ℕ)) (rows : Rows) (n : ℕ) → rows.rows.items ≡ replicate n None → n ≡ length es → IsRow es (length es) rows.reached → IsTree es rows.tree
    → AreRows es rows
none_rows es rows n none same reached tree = record {
  size = ap length none ∙ (length-replicate n None ∙ same);
  each = λ h row e. absurd (none-some row (sym (ap (λ us. get_or us h None) none ∙ nothing h) ∙ e));
  reached = reached;
  tree = tree;
}
  where
    nothing : (h : ℕ) → get_or {A = Option (List Bool)} (replicate n None) h None ≡ None
    nothing h = ⊎_elim (λ (b : h < n). get_or-replicate n h None None b) (λ a. get_or_past (replicate n None) h None (rw length-replicate a)) (cases_lt h n)

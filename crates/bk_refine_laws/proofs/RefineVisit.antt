-- What one application of a rule makes of a function stands for it: what it does at any numbers that are possible in both is the same.
use Rattle.std.proofs.Common.{◌≡◌, ℕ, zero, suc, refl, ap, sym, ◌∙◌, subst, ◌⊎◌, inl, inr, List, [], ◌∷◌, ◌++◌, map, length, Option, Some, None, Bool, true, false, cond, ◌&&◌}
use Rattle.std.specs.Prelude.{slice_get, find, count_by, if◌then◌else◌}
use Rattle.std.specs.List.{AllZip}
use Rattle.std.proofs.Math.Path.{fun_ext}
use Rattle.std.proofs.lemmas.List.Sums.{length-filter}
use Rattle.bk_func.specs.Records.{ValueRecord, BlockRecord, FuncRecord}
use Rattle.bk_func.specs.Edits.{block_of}
use Rattle.bk_func.specs.Numbers.{Program, Env, origin_of, state_of, value_in}
use Rattle.bk_func.specs.Effects.{has_effect, is_check, is_load, is_at, next_at, onward, chain, chain_from}
use Rattle.bk_func.specs.Meaning.{Activation, words_back, is_first_state, state_or, without_memory, is_make_result, value_named, entry_id}
use Rattle.bk_func.proofs.Faults.{In}
use Rattle.bk_func.proofs.Kept.{BothBlocks}
use Rattle.bk_refine_laws.specs.Visits.{after, Edit, edited, Visited, SameResult, VisitForm}
use Rattle.bk_refine_laws.specs.Possible.{Possible}
use Rattle.bk_refine_laws.specs.Refines.{DoAlike, results_from, BlockRefines, Refines}
use Rattle.bk_refine_laws.proofs.Blocks.{find_edit, either_edit, phis_kept}
use Rattle.bk_refine_laws.proofs.FaultsKept.{filter_edit, faults_kept, faults_same, and_false}
use Rattle.bk_refine_laws.proofs.Changed.{find_changed, entry_changed}

-- ---- chains of memory values
find_two_more : (t u : ValueRecord → Bool) (xs made : List ValueRecord) → ((x : ValueRecord) → In x xs → t x ≡ u x) → ((w : ValueRecord) → In w made → u w ≡ false) → find t xs ≡ find u (xs ++ made)
find_two_more t u [] [] h n = refl
find_two_more t u [] (w ∷ ws) h n = rw (n w (inl refl)) (find_two_more t u [] ws h (λ x i. n x (inr i)))
find_two_more t u (x ∷ xs) made h n = ap (λ c. cond c (Some x) (find t xs)) (h x (inl refl)) ∙ ap (λ o. cond (u x) (Some x) o) (find_two_more t u xs made (λ y i. h y (inr i)) n)

find_two : (t u : ValueRecord → Bool) (xs made : List ValueRecord) (k : ℕ) (v root : ValueRecord) → slice_get xs k ≡ Some v → t v ≡ false → u root ≡ false → ((x : ValueRecord) → In x xs → t x ≡ u x) →
    ((w : ValueRecord) → In w made → u w ≡ false) → find t xs ≡ find u (after xs made k root)
find_two t u [] made k v root e a b h n = absurd cc
find_two t u (x ∷ xs) made zero v root e a b h n =
    let d : t x ≡ false = ap t (let z : x ≡ v = cc in z) ∙ a in
    ap (λ q. cond q (Some x) (find t xs)) d ∙ (find_two_more t u xs made (λ y i. h y (inr i)) n ∙ sym (ap (λ q. cond q (Some root) (find u (xs ++ made))) b))
find_two t u (x ∷ xs) made (suc k) v root e a b h n =
    ap (λ c. cond c (Some x) (find t xs)) (h x (inl refl)) ∙ ap (λ o. cond (u x) (Some x) o) (find_two t u xs made k v root e a b (λ y i. h y (inr i)) n)

find_alike : (t u : ValueRecord → Bool) (xs : List ValueRecord) → ((x : ValueRecord) → In x xs → t x ≡ u x) → find t xs ≡ find u xs
find_alike t u [] h = refl
find_alike t u (x ∷ xs) h = ap (λ c. cond c (Some x) (find t xs)) (h x (inl refl)) ∙ ap (λ o. cond (u x) (Some x) o) (find_alike t u xs (λ y i. h y (inr i)))

chain_by : (f g : FuncRecord) (b c : BlockRecord) → ((s : ℕ) → next_at f b s ≡ next_at g c s) → (k s : ℕ) → chain k f b s ≡ chain k g c s
unfolding chain
chain_by f g b c h zero s = refl
chain_by f g b c h (suc k) s = ap (λ o. onward o (chain k f b)) (h s) ∙ ap (onward (next_at g c s)) (fun_ext (λ n. chain_by f g b c h k n))

does_itself : (p : Program) (m : ℕ → ℕ) (us : List ValueRecord) → AllZip (DoAlike p m) us us
does_itself p m [] = tt
does_itself p m (u ∷ us) = ((refl, λ calls a w. refl), does_itself p m us)

chains_alike : (p : Program) (m : ℕ → ℕ) (us ws : List ValueRecord) → us ≡ ws → AllZip (DoAlike p m) us ws
chains_alike p m us ws e = subst (λ z. AllZip (DoAlike p m) us z) e (does_itself p m us)

-- ---- results
results_alike : (p : Program) (f g : FuncRecord) → f.sig ≡ g.sig → (m : ℕ → ℕ) (a : Activation) (b : BlockRecord) → SameResult f g b → results_from (value_named f b.control) p f m a ≡ results_from (value_named g b.control) p g m a
results_alike p f g s m a b h = go b.control refl
  where
    words : words_back p f a ≡ words_back p g a
    words = rw s refl

    one : (u : ValueRecord) (t : Bool) → (if t then map m (without_memory u.args) else words_back p f a) ≡ (if t then map m (without_memory u.args) else words_back p g a)
    one u true = refl
    one u false = words

    two : (u w : ValueRecord) → (u ≡ w) ⊎ ((is_make_result u.op.family ≡ false) × (is_make_result w.op.family ≡ false)) → results_from (Some u) p f m a ≡ results_from (Some w) p g m a
    two u w (inl e) = one u (is_make_result u.op.family) ∙ ap (λ z. results_from (Some z) p g m a) e
    two u w (inr (x, y)) =
        ap (λ t. if t then map m (without_memory u.args) else words_back p f a) x
        ∙ words
        ∙ sym (ap (λ t. if t then map m (without_memory w.args) else words_back p g a) y)

    go : (o : Option ℕ) → b.control ≡ o → results_from (value_named f o) p f m a ≡ results_from (value_named g o) p g m a
    go None e = words
    go (Some id) e =
        let (u, w, d, c, x) = h id e in
        ap (λ z. results_from z p f m a) d ∙ two u w x ∙ sym (ap (λ z. results_from z p g m a) c)

-- a value that is not the one that changed stays in the list
stays_in : (xs made : List ValueRecord) (k : ℕ) (v root u : ValueRecord) → slice_get xs k ≡ Some v → In u xs → (u ≡ v → ⊥) → In u (after xs made k root)
stays_in [] made k v root u e i n = elim i [ ]
stays_in (x ∷ xs) made zero v root u e (inl d) n = absurd (n (sym d ∙ (let z : x ≡ v = cc in z)))
stays_in (x ∷ xs) made zero v root u e (inr i) n = inr (front_in xs i)
  where
    front_in : (ys : List ValueRecord) → In u ys → In u (ys ++ made)
    front_in [] j = elim j [ ]
    front_in (y ∷ ys) (inl q) = inl q
    front_in (y ∷ ys) (inr j) = inr (front_in ys j)
stays_in (x ∷ xs) made (suc k) v root u e (inl d) n = inl d
stays_in (x ∷ xs) made (suc k) v root u e (inr i) n = inr (stays_in xs made k v root u e i n)

check_stays : (b : BlockRecord) (k : ℕ) (v root : ValueRecord) (made : List ValueRecord) → Edit b k v root made → (u : ValueRecord) → In u b.values →
    is_check (origin_of u.op.family) ≡ true ⊎ is_load (origin_of u.op.family) ≡ true → In u (edited b k root made).values
check_stays b k v root made e u i h = stays_in b.values made k v root u e.stands i (λ q. other q h)
  where
    other : u ≡ v → is_check (origin_of u.op.family) ≡ true ⊎ is_load (origin_of u.op.family) ≡ true → ⊥
    other q (inl c) = (let d : is_check (origin_of u.op.family) ≡ false = ap (λ (z : ValueRecord). is_check (origin_of z.op.family)) q ∙ e.old.check in cc)
    other q (inr c) = (let d : is_load (origin_of u.op.family) ≡ false = ap (λ (z : ValueRecord). is_load (origin_of z.op.family)) q ∙ e.old.load in cc)

-- ---- the two kinds of blocks
block_refined : (p : Program) (f g : FuncRecord) → f.sig ≡ g.sig → (x : BlockRecord) (k : ℕ) (v root : ValueRecord) (made : List ValueRecord) → Edit x k v root made → VisitForm f g x k v root made → (e : Env) (m : ℕ → ℕ) (id : ℕ) →
    block_of f id ≡ Some x → block_of g id ≡ Some (edited x k root made) → BlockRefines p f g m x (edited x k root made)
block_refined p f g sig x k v root made edit form e m id d c = record {
  number = refl;
  kind = refl;
  preds = refl;
  succs = refl;
  control = refl;
  first = λ s. ap (λ o. state_or o s) (find_edit (λ v. is_first_state v.ty v.op.family) x.values made k v root edit.stands edit.old.first edit.new.first (λ w i. (edit.more w i).first));
  phis = λ n place old. phis_kept (value_in x.values n) (value_in (after x.values made k root) n)
      (either_edit x.values made k n v root edit.stands edit.same edit.old.phi edit.new.phi (λ w i. (edit.more w i).phi)) place m m old (λ u y a b. refl);
  chain = λ s. chains_alike p m (chain_from f x s) (chain_from g y s) (chain_by f g x y next (count_by has_effect x.values) s ∙ ap (λ n. chain n g y s) counts);
  faults = λ window s. faults_kept f g x k v root made form.limit form.rank form.rank_after edit form.takes (form.ranked id x d) (form.ranked_after id y c) (form.states id x d) (check_stays x k v root made edit)
      p.target m m window (λ u i. refl) s;
  results = λ a. results_alike p f g sig m a x (form.result id x d);
}
  where
    y : BlockRecord
    y = edited x k root made

    next : (s : ℕ) → next_at f x s ≡ next_at g y s
    next s = find_two (λ v. has_effect v && is_at (state_of f v) s) (λ v. has_effect v && is_at (state_of g v) s) x.values made k v root edit.stands
        (and_false (has_effect v) (is_at (state_of f v) s) edit.old.effect) (and_false (has_effect root) (is_at (state_of g root) s) edit.new.effect)
        (λ u i. ap (λ o. has_effect u && is_at o s) (form.states id x d u i)) (λ w i. and_false (has_effect w) (is_at (state_of g w) s) (edit.more w i).effect)

    counts : count_by has_effect x.values ≡ count_by has_effect y.values
    counts =
        sym (length-filter has_effect x.values)
        ∙ ap length (filter_edit has_effect has_effect x.values made k v root edit.stands edit.old.effect edit.new.effect (λ u i. refl) (λ w i. (edit.more w i).effect))
        ∙ length-filter has_effect (after x.values made k root)

block_alike : (p : Program) (f g : FuncRecord) → f.sig ≡ g.sig → (x : BlockRecord) (k : ℕ) (v root : ValueRecord) (made : List ValueRecord) → VisitForm f g x k v root made → (e : Env) (m : ℕ → ℕ) (id : ℕ) (b : BlockRecord) →
    block_of f id ≡ Some b → block_of g id ≡ Some b → BlockRefines p f g m b b
block_alike p f g sig x k v root made form e m id b d c = record {
  number = refl;
  kind = refl;
  preds = refl;
  succs = refl;
  control = refl;
  first = λ s. refl;
  phis = λ n place old. refl;
  chain = λ s. chains_alike p m (chain_from f b s) (chain_from g b s) (chain_by f g b b
      (λ n. find_alike (λ v. has_effect v && is_at (state_of f v) n) (λ v. has_effect v && is_at (state_of g v) n) b.values (λ u i. ap (λ o. has_effect u && is_at o n) (form.states id b d u i)))
      (count_by has_effect b.values) s);
  faults = λ window s. faults_same f g b form.rank form.rank_after (form.ranked id b d) (form.ranked_after id b c) (form.states id b d) p.target m m window (λ u i. refl) s;
  results = λ a. results_alike p f g sig m a b (form.result id b d);
}

-- one visit: what the rule makes stands for the function
pub visit_refines : (p : Program) (f g : FuncRecord) (b k : ℕ) (x : BlockRecord) (v root : ValueRecord) (made : List ValueRecord) → Visited f g b k x v root made → VisitForm f g x k v root made →
    ((e : Env) (m : ℕ → ℕ) → Possible p g e m → Possible p f e m) → Refines p f g
visit_refines p f g b k x v root made h form possible = record {
  sig = sig;
  entry = entry_changed f.blocks b x (edited x k root made) h.there refl ∙ ap (λ (z : FuncRecord). entry_id z.blocks) (sym h.gives);
  possible = possible;
  blocks = λ e m q id. at e m id (both id);
}
  where
    sig : f.sig ≡ g.sig
    sig = ap (λ (z : FuncRecord). z.sig) (sym h.gives)

    y : BlockRecord
    y = edited x k root made

    both : (id : ℕ) → (block_of f id ≡ block_of g id) ⊎ ((block_of f id ≡ Some x) × (block_of g id ≡ Some y))
    both id =
        let P : FuncRecord → Type 0 = λ z. (block_of f id ≡ block_of z id) ⊎ ((block_of f id ≡ Some x) × (block_of z id ≡ Some y)) in
        subst P (sym h.gives) (find_changed f.blocks b x y id h.there refl)

    put : (e : Env) (m : ℕ → ℕ) (o u o' u' : Option BlockRecord) → o ≡ o' → u ≡ u' → BothBlocks (BlockRefines p f g m) o' u' → BothBlocks (BlockRefines p f g m) o u
    put e m o u o' u' a c h =
        subst (λ z. BothBlocks (BlockRefines p f g m) z u) (sym a) (subst (λ z. BothBlocks (BlockRefines p f g m) o' z) (sym c) h)

    at : (e : Env) (m : ℕ → ℕ) (id : ℕ) → (block_of f id ≡ block_of g id) ⊎ ((block_of f id ≡ Some x) × (block_of g id ≡ Some y)) → BothBlocks (BlockRefines p f g m) (block_of f id) (block_of g id)
    at e m id (inr (d, c)) = put e m (block_of f id) (block_of g id) (Some x) (Some y) d c (block_refined p f g sig x k v root made h.edit form e m id d c)
    at e m id (inl d) = go (block_of f id) refl
      where
        go : (o : Option BlockRecord) → block_of f id ≡ o → BothBlocks (BlockRefines p f g m) (block_of f id) (block_of g id)
        go None q = put e m (block_of f id) (block_of g id) None None q (sym d ∙ q) tt
        go (Some c) q = put e m (block_of f id) (block_of g id) (Some c) (Some c) q (sym d ∙ q) (block_alike p f g sig x k v root made form e m id c q (sym d ∙ q))

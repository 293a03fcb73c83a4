-- What is kept of a call's results are the values of its block that take them, and the order of a block is that of its values.
use Rattle.std.proofs.Common.{◌≡◌, ℕ, ◌<◌, refl, ap, sym, ◌∙◌, subst, arith, inl, inr, List, [], ◌∷◌, length, map, Option, Some, None, Bool, true, false, eq-eqb}
use Rattle.std.specs.Prelude.{if◌then◌else◌, filter, slice_get, option_and_then, unwrap_or, Vec}
use Rattle.std.specs.declared.alloc.Global.{Global}
use Rattle.std.proofs.lemmas.List.{get_or-map}
use Rattle.std.proofs.lemmas.Bool.{eqb-true}
use Rattle.bk_func.specs.Records.{ValueRecord, BlockRecord, FuncRecord}
use Rattle.bk_func.specs.Numbers.{Origin, result, origin_of, values_of, room}
use Rattle.bk_func.specs.Effects.{is_at}
use Rattle.bk_func.specs.Form.{IsFormed}
use Rattle.bk_func.specs.Form.Text.{HasValue}
use Rattle.bk_func.specs.Form.Walks.{IsReached}
use Rattle.bk_func.specs.Meaning.{first_state}
use Rattle.bk_func.specs.Form.Signatures.{Setting}
use Rattle.bk_func.proofs.Faults.{In, filter-in, in-filter}
use Rattle.bk_mean.specs.Numbering.{found_in, place_in}
use Rattle.bk_mean.specs.Arranged.{IsOrdered}
use Rattle.bk_mean.specs.Ready.{is_result, call_place, kept_by, results_at, KeepsResults}
use Rattle.bk_mean.specs.declared.ready.Kept.{Kept}
use Rattle.bk_places.proofs.Elements.{to_in, to_contains}
use Rattle.bk_places.proofs.Positions.{got, get_or_got}
use Rattle.bk_mean.proofs.Named.{got_index, to_flat, from_flat}
use Rattle.bk_mean.proofs.Roles.{result_args, result_calls, first_argument}
use Rattle.bk_mean.proofs.Formed.{sound}
use Rattle.bk_mean.proofs.Knowing.{IsResultOf}
use Rattle.bk_mean.proofs.Walked.{Arrives, arrives_meets}
use Rattle.bk_mean.proofs.Arranged.{due_level, due_class, values_at}
use Rattle.bk_mean.proofs.Ordered.{ordered_laid, ordered_placed, ordered_filled}
use Rattle.bk_mean.proofs.Doing.{Order}
use Rattle.bk_mean.proofs.Leaps.{found_at}
use Rattle.bk_mean.proofs.Standing.{value_found_in, one_number}

in_map : {A B : Type 0} (g : A → B) (xs : List A) (x : A) → In x xs → In (g x) (map g xs)
in_map g [] x i = elim i [ ]
in_map g (y ∷ ys) x (inl e) = inl (ap g e)
in_map g (y ∷ ys) x (inr i) = inr (in_map g ys x i)

map_in : {A B : Type 0} (g : A → B) (xs : List A) (y : B) → In y (map g xs) → (x : A) × In x xs × (g x ≡ y)
map_in g [] y i = elim i [ ]
map_in g (x ∷ xs) y (inl e) = (x, inl refl, e)
map_in g (x ∷ xs) y (inr i) = let r = map_in g xs y i in (r.0, inr r.1, r.2)

at_some : (o : Option ℕ) (p : ℕ) → is_at o p ≡ true → o ≡ Some p
at_some None p e = absurd cc
at_some (Some n) p e = ap Some (eqb-true n p e)

some_at : (o : Option ℕ) (p : ℕ) → o ≡ Some p → is_at o p ≡ true
some_at o p e = rw e (eq-eqb p p refl)

-- the call of a result
result_call : (f : FuncRecord) (u : ValueRecord) (p : ℕ) → call_place f u ≡ Some p → (origin_of u.op.family ≡ result) × ((a : ℕ) × (slice_get u.args 0 ≡ Some a) × (found_in f a ≡ Some p))
result_call f u p e = go (origin_of u.op.family) refl
  where
    by : (o : Option ℕ) → slice_get u.args 0 ≡ o → option_and_then (found_in f) o ≡ Some p → (a : ℕ) × (slice_get u.args 0 ≡ Some a) × (found_in f a ≡ Some p)
    by None q w = absurd cc
    by (Some a) q w = (a, q, w)

    other : (o : Origin) → origin_of u.op.family ≡ o → is_result o ≡ false → ⊥
    other o q n =
        let P : Bool → Type 0 = λ b. (if b then option_and_then (found_in f) (slice_get u.args 0) else None) ≡ Some p in
        let w = subst P (ap is_result q ∙ n) e in
        absurd cc

    go : (o : Origin) → origin_of u.op.family ≡ o → (origin_of u.op.family ≡ result) × ((a : ℕ) × (slice_get u.args 0 ≡ Some a) × (found_in f a ≡ Some p))
    go result q =
        let P : Bool → Type 0 = λ b. (if b then option_and_then (found_in f) (slice_get u.args 0) else None) ≡ Some p in
        (q, by (slice_get u.args 0) refl (subst P (ap is_result q) e))
    go o q = absurd (other o q refl)

call_result : (f : FuncRecord) (u : ValueRecord) (a p : ℕ) → origin_of u.op.family ≡ result → slice_get u.args 0 ≡ Some a → found_in f a ≡ Some p → call_place f u ≡ Some p
call_result f u a p o e h = rw (o, e) h

module _ (s : Setting) (f : FuncRecord) (form : IsFormed s f) (b : BlockRecord) (v : ValueRecord) (i : HasValue f b v) where
  place : (p : ℕ) × (found_in f v.id ≡ Some p)
  place = value_found_in f b v i

  place_is : place_in f v.id ≡ place.0
  place_is = ap (λ o. unwrap_or o (room f)) place.1

  pub place_under : place_in f v.id < room f
  place_under = (let l = (found_at f v.id place.0 place.1).1.low in omega (arith, l, place_is))

  -- its results are those that are kept at its place
  pub result_kept : (u : ValueRecord) → IsResultOf f b v u → In (kept_by f u) (results_at f (place_in f v.id) (values_of f))
  result_kept u (iu, o, e) =
      let h = sound s f form in
      let a = first_argument u 0 (result_args s f b u (h.rows b u iu) o).0 in
      let c = call_result f u v.id (place_in f v.id) o (a ∙ ap Some e) (place.1 ∙ ap Some (sym place_is)) in
      let j = to_flat (λ (x : BlockRecord). x.values) b u f.blocks (to_in b f.blocks iu.0) (to_in u b.values iu.1) in
      in_map (kept_by f) (filter (λ w. is_at (call_place f w) (place_in f v.id)) (values_of f)) u (filter-in (λ w. is_at (call_place f w) (place_in f v.id)) u (values_of f) j (some_at (call_place f u) (place_in f v.id) c))

  pub kept_result : (k : Kept) → In k (results_at f (place_in f v.id) (values_of f)) → (u : ValueRecord) × IsResultOf f b v u × (k ≡ kept_by f u)
  kept_result k j =
      let h = sound s f form in
      let (u, l, e) = map_in (kept_by f) (filter (λ w. is_at (call_place f w) (place_in f v.id)) (values_of f)) k j in
      let t = in-filter (λ w. is_at (call_place f w) (place_in f v.id)) u (values_of f) l in
      let (o, (a, g, n)) = result_call f u (place_in f v.id) (at_some (call_place f u) (place_in f v.id) t.1) in
      let d = one_number f a v.id (place_in f v.id) n (place.1 ∙ ap Some (sym place_is)) in
      let c = from_flat (λ (x : BlockRecord). x.values) u f.blocks t.0 in
      let iu : HasValue f c.0 u = (to_contains c.0 f.blocks c.1, to_contains u c.0.values c.2) in
      let w = (h.memory c.0 u iu).call (result_calls u o) v.id (g ∙ ap Some d) in
      let same = h.named.same_block c.0 b w.0 v (iu.0, w.1) i w.2 in
      let P : BlockRecord → Type 0 = λ x. HasValue f x u in
      (u, (subst P same iu, o, got_index u.args 0 a g ∙ d), sym e)

  -- as they stand among what is kept for all values
  pub kept_there : (kept : List (Vec Kept Global)) → length kept ≡ room f → KeepsResults f (values_of f) (map (λ x. x.items) kept) →
      (ks : Vec Kept Global) × (slice_get kept (place_in f v.id) ≡ Some ks) × (ks.items ≡ results_at f (place_in f v.id) (values_of f))
  kept_there kept n keeps =
      let l : place_in f v.id < length kept = (let p = place_under in omega (arith, p, n)) in
      let q = got kept (place_in f v.id) l in
      (q.0, q.1, ap (λ (x : Vec Kept Global). x.items) (sym (get_or_got kept (place_in f v.id) q.0 q.0 q.1)) ∙ sym (get_or-map (λ (x : Vec Kept Global). x.items) kept (place_in f v.id) q.0 [] l) ∙ keeps.each (place_in f v.id) place_under)

-- the order of a block in which a run arrives
pub order_there : (s : Setting) (f : FuncRecord) → IsFormed s f → (b : BlockRecord) (m : ℕ) → Arrives f b m → (zs : List ℕ) → IsOrdered f b zs → Order s f b m (due_level f b (first_state b m)) due_class (values_at b.values zs)
order_there s f form b m a zs o =
    let meets = arrives_meets s f (sound s f form) b m a in
    let reached : IsReached f b = (a.before, a.walk) in
    record {
      formed = form;
      arrives = a;
      laid = ordered_laid s f form b reached m meets zs o;
      placed = ordered_placed s f form b reached m meets zs o;
      filled = ordered_filled s f form b reached m meets zs o;
    }

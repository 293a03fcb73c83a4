-- Next uses in a block that is scheduled.
use Rattle.std.proofs.Common.{◌≡◌, ◌∙◌, sym, refl, ap, subst, ℕ, zero, suc, ◌+◌, ◌<◌, ◌⊎◌, inl, inr, ⊎_elim, Bool, true, List, [], ◌∷◌, ◌++◌, length, map, Some, arith, append_assoc}
use Rattle.std.specs.Prelude.{filter}
use Rattle.std.specs.List.{Contains, slice_get}
use Rattle.std.proofs.lemmas.Bool.{cases_eq}
use Rattle.std.proofs.lemmas.List.{length-append}
use Rattle.std.proofs.lemmas.Option.{slice_get_within}
use Rattle.bk_func.specs.Records.{ValueRecord, BlockRecord, FuncRecord}
use Rattle.bk_func.specs.Form.Text.{Defines, HasBlock, IsPhi}
use Rattle.bk_func.proofs.Faults.{In, in-filter}
use Rattle.bk_live.specs.Live.{AllNextUses, IsEntry, IsLive, IsOrdered, here, order_at, pass}
use Rattle.bk_live.proofs.Alone.{contains_at, entry_alone}
use Rattle.bk_places.proofs.Elements.{in_right, to_contains, to_in}
use Rattle.bk_alloc.specs.Blocks.{Next}
use Rattle.bk_alloc.specs.Placement.{is_word, task_of}
use Rattle.bk_alloc_quality.specs.Pressure.{AreApart, ArePassed, IsPassed, values_of}
use Rattle.bk_alloc_whole.specs.Whole.{words_of}
use Rattle.bk_alloc_whole.proofs.Words.{has_word_by, in_words, live_of, used_of, word_contained}

abbrev pub ids : List ValueRecord → List ℕ
ids vs = map (λ (v : ValueRecord). v.id) vs

-- a block at its place, its order being its phis and then other values
pub record Lies (f : FuncRecord) (os : List (List ℕ)) (next : Next) (i : ℕ) (b : BlockRecord) (ps ts : List ValueRecord) : Type 0 where
  pub ordered : IsOrdered f os
  pub uses : AllNextUses f os next
  pub at : slice_get f.blocks i ≡ Some b
  pub order : order_at os i ≡ ids (ps ++ ts)
  pub inside : (z : ValueRecord) → In z (ps ++ ts) → Contains b.values z
  pub phis : (z : ValueRecord) → In z ps → IsPhi z
  pub rest : (z : ValueRecord) → In z ts → ¬ IsPhi z
  pub dead : (n : ℕ) → Defines b n → ¬ IsLive f os n i 0

-- entries

pub get_past : (pre ys : List ValueRecord) (m j : ℕ) → m ≡ length pre + j → slice_get (ids (pre ++ ys)) m ≡ slice_get (ids ys) j
get_past [] ys m j e = ap (λ (k : ℕ). slice_get (ids ys) k) (omega arith)
get_past (p ∷ pre) ys zero j e = absurd (omega arith)
get_past (p ∷ pre) ys (suc m) j e = get_past pre ys m j (omega arith)

pub length-ids : (vs : List ValueRecord) → length (ids vs) ≡ length vs
length-ids [] = refl
length-ids (v ∷ vs) = ap suc (length-ids vs)

in_at : (ys : List ValueRecord) (x : ℕ) → In x (ids ys) → (j : ℕ) × (slice_get (ids ys) j ≡ Some x)
in_at [] x i = elim i [ ]
in_at (y ∷ ys) x (inl e) = (0, ap Some e)
in_at (y ∷ ys) x (inr i) = (let r = in_at ys x i in (suc r.0, r.1))

-- an entry of the block
entry : (f : FuncRecord) (os : List (List ℕ)) (next : Next) (i : ℕ) (b : BlockRecord) (ps ts pre us : List ValueRecord) (m j x : ℕ) → Lies f os next i b ps ts → ps ++ ts ≡ pre ++ us → m ≡ length pre + j
    → slice_get (ids us) j ≡ Some x → IsEntry os i m x
entry f os next i b ps ts pre us m j x h w e g =
    ap (λ (l : List ℕ). slice_get l m) (h.order ∙ ap ids w) ∙ (get_past pre us m j e ∙ g)

-- tasks are passed

pub values_ids : (word : ℕ → Bool) (us : List ValueRecord) → values_of (map (task_of word) us) ≡ ids us
values_ids word [] = refl
values_ids word (u ∷ us) = ap (λ (l : List ℕ). u.id ∷ l) (values_ids word us)

one_more : (pre : List ValueRecord) (u : ValueRecord) → length (pre ++ u ∷ []) ≡ length pre + 1
one_more pre u = length-append pre (u ∷ [])

arg_parts : (word : ℕ → Bool) (xs : List ℕ) (a : ℕ) → Contains (filter word xs) a → Contains xs a × (word a ≡ true)
arg_parts word xs a c = (let r = in-filter word a xs (to_in a (filter word xs) c) in (to_contains a xs r.0, r.1))

passed_one : (f : FuncRecord) (os : List (List ℕ)) (next : Next) (i : ℕ) (b : BlockRecord) (ps ts pre us : List ValueRecord) (u : ValueRecord) → Lies f os next i b ps ts → ps ++ ts ≡ pre ++ u ∷ us
    → ¬ IsPhi u → IsPassed (words_of f) (next b.id (length pre)) (next b.id (length pre + 1)) (values_of (map (task_of (is_word f.blocks)) us)) (task_of (is_word f.blocks) u)
passed_one f os next i b ps ts pre us u h w phi =
    let k = length pre in
    let e : IsEntry os i k u.id = entry f os next i b ps ts pre (u ∷ us) k 0 u.id h w (omega arith) refl in
    let l : k < length (order_at os i) = slice_get_within (order_at os i) k u.id e in
    let hb : HasBlock f b = contains_at f.blocks i b h.at in
    let hu : Contains b.values u = h.inside u (subst (λ (zs : List ValueRecord). In u zs) (sym w) (in_right u pre (u ∷ us) (inl refl))) in
    record {
      args = λ a c.
          let r = arg_parts (is_word f.blocks) u.args a c in
          (word_contained f a r.1, used_of f os next h.uses i k a b h.at (omega arith) (1, here i k (inl (u.id, e, (b, u, (hb, hu), refl, phi, r.0)))));
      rest = λ v used other.
          let m = live_of f os next h.uses i (k + 1) v b h.at (omega arith) used in
          used_of f os next h.uses i k v b h.at (omega arith) (_, pass i k u.id m.0 e (λ q. other (sym q)) m.1);
      word = λ g. in_words f b u (hb, hu) g;
      gives = λ c. has_word_by f os h.ordered b u (hb, hu) c;
      new = λ c.
          let j = in_at us u.id (to_in u.id (ids us) (subst (λ (l : List ℕ). Contains l u.id) (values_ids (is_word f.blocks) us) c)) in
          let d : IsEntry os i (k + suc j.0) u.id = entry f os next i b ps ts pre (u ∷ us) (k + suc j.0) (suc j.0) u.id h w refl j.1 in
          let q = (entry_alone f os h.ordered i i k (k + suc j.0) u.id e d).1 in
          omega (arith, q);
    }

pub passed_from : (f : FuncRecord) (os : List (List ℕ)) (next : Next) (i : ℕ) (b : BlockRecord) (ps ts pre us : List ValueRecord) → Lies f os next i b ps ts → ps ++ ts ≡ pre ++ us
    → ((z : ValueRecord) → In z us → ¬ IsPhi z) → ArePassed (words_of f) (next b.id) (length pre) (map (task_of (is_word f.blocks)) us)
unfolding ArePassed
passed_from f os next i b ps ts pre [] h w phi = tt
passed_from f os next i b ps ts pre (u ∷ us) h w phi =
    let more : ps ++ ts ≡ (pre ++ u ∷ []) ++ us = w ∙ sym (append_assoc pre (u ∷ []) us) in (
      passed_one f os next i b ps ts pre us u h w (phi u (inl refl)),
      subst (λ (m : ℕ). ArePassed (words_of f) (next b.id) m (map (task_of (is_word f.blocks)) us)) (one_more pre u)
          (passed_from f os next i b ps ts (pre ++ u ∷ []) us h more (λ z c. phi z (inr c))),
    )

-- what is live behind the phis is one of them or live before

pub back : (f : FuncRecord) (os : List (List ℕ)) (next : Next) (i : ℕ) (b : BlockRecord) (ps ts pre qs us : List ValueRecord) (v m : ℕ) → Lies f os next i b ps ts → ps ++ ts ≡ pre ++ (qs ++ us) → m ≡ length pre + length qs
    → IsLive f os v i m → In v (ids qs) ⊎ IsLive f os v i (length pre)
back f os next i b ps ts pre [] us v m h w e l = inr (subst (λ (k : ℕ). IsLive f os v i k) (omega arith) l)
back f os next i b ps ts pre (q ∷ qs) us v m h w e l =
    let more : ps ++ ts ≡ (pre ++ q ∷ []) ++ (qs ++ us) = w ∙ sym (append_assoc pre (q ∷ []) (qs ++ us)) in
    let at : IsEntry os i (length pre) q.id = entry f os next i b ps ts pre (q ∷ (qs ++ us)) (length pre) 0 q.id h w (omega arith) refl in
    ⊎_elim
    (λ (c : In v (ids qs)). inl (inr c))
    (λ (live : IsLive f os v i (length (pre ++ q ∷ []))).
    ⊎_elim
    (λ (same : q.id ≡ v). inl (inl same))
    (λ (other : q.id ≡ v → ⊥). let r : IsLive f os v i (length pre + 1) = subst (λ (k : ℕ). IsLive f os v i k) (one_more pre q) live in inr (_, pass i (length pre) q.id r.0 at other r.1))
    (cases_eq q.id v))
    (back f os next i b ps ts (pre ++ q ∷ []) qs us v m h more (omega (arith, one_more pre q)) l)

-- none comes twice

pub apart_from : (f : FuncRecord) (os : List (List ℕ)) (next : Next) (i : ℕ) (b : BlockRecord) (ps ts pre us : List ValueRecord) → Lies f os next i b ps ts → ps ++ ts ≡ pre ++ us → AreApart (ids us)
apart_from f os next i b ps ts pre [] h w = tt
apart_from f os next i b ps ts pre (u ∷ us) h w =
    let k = length pre in
    let more : ps ++ ts ≡ (pre ++ u ∷ []) ++ us = w ∙ sym (append_assoc pre (u ∷ []) us) in (
      λ c. (let j = in_at us u.id (to_in u.id (ids us) c) in
          let e : IsEntry os i k u.id = entry f os next i b ps ts pre (u ∷ us) k 0 u.id h w (omega arith) refl in
          let d : IsEntry os i (k + suc j.0) u.id = entry f os next i b ps ts pre (u ∷ us) (k + suc j.0) (suc j.0) u.id h w refl j.1 in
          let q = (entry_alone f os h.ordered i i k (k + suc j.0) u.id e d).1 in
          omega (arith, q)),
      apart_from f os next i b ps ts (pre ++ u ∷ []) us h more,
    )

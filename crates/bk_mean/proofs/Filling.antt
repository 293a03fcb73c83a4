-- What a filled list of a block's values gives at each turn: arguments, memory, and numbers that stay.
use Rattle.std.proofs.Common.{◌≡◌, ℕ, refl, ap, sym, ◌∙◌, subst, ◌⊎◌, inl, inr, List, [], ◌∷◌, ◌++◌, Option, Some, None, Bool, true, false, append_assoc, append-nil}
use Rattle.std.specs.Prelude.{if◌then◌else◌, slice_index}
use Rattle.std.proofs.lemmas.Bool.{or_cases}
use Rattle.bk_func.specs.Records.{ValueRecord, BlockRecord, FuncRecord}
use Rattle.bk_func.specs.Numbers.{Program, loaded, result, origin_of, state_of, numbers, made_of, read_at, address_by, cut_result, result_place}
use Rattle.bk_func.specs.Effects.{has_effect}
use Rattle.bk_func.specs.Meaning.{Outcome, World, Run, gives, stops, Activation, Calls, halted, fault_at, done_at}
use Rattle.bk_func.specs.Form.Text.{HasBlock, HasValue}
use Rattle.bk_func.specs.Form.Walks.{IsReached}
use Rattle.bk_func.specs.Form.Before.{IsTakenBy, Needs}
use Rattle.bk_func.specs.Form.Signatures.{Setting}
use Rattle.bk_func.proofs.Faults.{In}
use Rattle.bk_func.proofs.Flat.{Still, one}
use Rattle.bk_func.proofs.Unique.{solved}
use Rattle.bk_places.proofs.Elements.{to_in, in_left, in_right, in_either}
use Rattle.bk_mean.proofs.Named.{Once, found_value}
use Rattle.bk_mean.proofs.Formed.{Sound}
use Rattle.bk_mean.proofs.Ranks.{IsLive, rank, ranks}
use Rattle.bk_mean.proofs.Steady.{Agree}
use Rattle.bk_mean.proofs.Along.{IfGives, IsShown, Nowhere, agree_self, agree_wider, done_agrees}
use Rattle.bk_mean.proofs.Levels.{asks, acts, IsClosedList, needed_in}
use Rattle.bk_mean.proofs.Laying.{Filled, empty, fill, AllNamed, Placed, ends, goes, with_mid, mid, or_mid}

-- a list with an element more at its end, and as one before and one after an element
abbrev AtEnd : {A : Type 0} → List A → A → List A → A → List A → Type 0
AtEnd {A} zs w pre v post = ((post ≡ []) × (zs ≡ pre) × (w ≡ v)) ⊎ ((more : List A) × (zs ≡ pre ++ v ∷ more))

at_end : {A : Type 0} (zs : List A) (w : A) (pre : List A) (v : A) (post : List A) → zs ++ w ∷ [] ≡ pre ++ v ∷ post → AtEnd zs w pre v post
at_end [] w [] v post e = let a : w ≡ v = cc in let b : [] ≡ post = cc in inl (sym b, refl, a)
at_end [] w (p ∷ []) v post e = absurd cc
at_end [] w (p ∷ q ∷ pre) v post e = absurd cc
at_end {A} (z ∷ zs) w [] v post e = let a : z ≡ v = cc in inr (zs, ap (λ (x : A). x ∷ zs) a)
at_end {A} (z ∷ zs) w (p ∷ pre) v post e =
    let a : z ≡ p = cc in
    let b : zs ++ w ∷ [] ≡ pre ++ v ∷ post = cc in
    elim (at_end zs w pre v post b) as (λ _. AtEnd (z ∷ zs) w (p ∷ pre) v post) [
      | inl q ↦ inl (q.0, (let c = q.1 in let d : z ∷ zs ≡ p ∷ pre = cc in d), q.2)
      | inr q ↦ inr (q.0, (let c = q.1 in let d : z ∷ zs ≡ p ∷ (pre ++ v ∷ q.0) = cc in d))
    ]

-- a filled list has all values, each once
pub filled_in : (b : BlockRecord) (level class : ValueRecord → ℕ) (xs zs : List ValueRecord) → Filled b level class xs zs → (v : ValueRecord) → In v xs → In v zs
filled_in b level class _ _ empty v i = i
filled_in b level class _ _ (fill xs ys zs w free front back g) v i = elim (or_mid v w xs ys i) as (λ _. In v (zs ++ w ∷ [])) [
  | inl j ↦ in_left v zs (w ∷ []) (filled_in b level class (xs ++ ys) zs g v j)
  | inr d ↦ in_right v zs (w ∷ []) (inl d)
]

pub in_filled : (b : BlockRecord) (level class : ValueRecord → ℕ) (xs zs : List ValueRecord) → Filled b level class xs zs → (v : ValueRecord) → In v zs → In v xs
in_filled b level class _ _ empty v i = i
in_filled b level class _ _ (fill xs ys zs w free front back g) v i = go (in_either v zs (w ∷ []) i) (λ j. in_filled b level class (xs ++ ys) zs g v j)
  where
    go : In v zs ⊎ In v (w ∷ []) → (In v zs → In v (xs ++ ys)) → In v (xs ++ w ∷ ys)
    go (inl j) rest = with_mid v w xs ys (rest j)
    go (inr (inl d)) rest = (let P : ValueRecord → Type 0 = λ x. In x (xs ++ w ∷ ys) in subst P d (mid w xs ys))
    go (inr (inr j)) rest = elim j [ ]

once_end : (zs : List ValueRecord) (w : ValueRecord) → Once zs → ¬ In w zs → Once (zs ++ w ∷ [])
once_end [] w o n = (λ i. i, tt)
once_end (z ∷ zs) w o n = (
  λ i. elim (in_either z zs (w ∷ []) i) as (λ _. ⊥) [
    | inl j ↦ o.0 j
    | inr j ↦ (elim j as (λ _. ⊥) [ inl d ↦ n (inl (sym d)) | inr k ↦ k ])
  ],
  once_end zs w o.1 (λ i. n (inr i)),
)

pub once_parts : (v : ValueRecord) (xs ys : List ValueRecord) → Once (xs ++ v ∷ ys) → (¬ In v xs) × Once (xs ++ ys) × ¬ In v (xs ++ ys)
once_parts v [] ys o = (λ i. i, o.1, o.0)
once_parts v (x ∷ xs) ys o =
    let r = once_parts v xs ys o.1 in
    let P : ValueRecord → Type 0 = λ y. In y (xs ++ v ∷ ys) in (
      λ i. elim i as (λ _. ⊥) [ inl d ↦ o.0 (subst P (sym d) (mid v xs ys)) | inr j ↦ r.0 j ],
      (λ i. o.0 (with_mid x v xs ys i), r.1),
      λ i. elim i as (λ _. ⊥) [ inl d ↦ o.0 (subst P (sym d) (mid v xs ys)) | inr j ↦ r.2 j ],
    )

pub filled_once : (b : BlockRecord) (level class : ValueRecord → ℕ) (xs zs : List ValueRecord) → Filled b level class xs zs → Once xs → Once zs
filled_once b level class _ _ empty o = o
filled_once b level class _ _ (fill xs ys zs w free front back g) o =
    let q = once_parts w xs ys o in
    once_end zs w (filled_once b level class (xs ++ ys) zs g q.1) (λ i. q.2 (in_filled b level class (xs ++ ys) zs g w i))

-- each value stands after those that it takes
pub filled_after : (b : BlockRecord) (level class : ValueRecord → ℕ) (xs zs : List ValueRecord) → Filled b level class xs zs → IsClosedList b xs → (pre : List ValueRecord) (v : ValueRecord) (post : List ValueRecord) →
    zs ≡ pre ++ v ∷ post → (u : ValueRecord) → IsTakenBy b u v → In u pre
filled_after b level class _ _ empty c [] v post e u t = absurd cc
filled_after b level class _ _ empty c (p ∷ pre) v post e u t = absurd cc
filled_after b level class _ _ (fill xs ys zs w free front back g) c pre v post e u t =
    elim (at_end zs w pre v post e) as (λ _. In u pre) [
      | inl q ↦ (let P : List ValueRecord → Type 0 = λ ws. In u ws in subst P q.1 (here q.2))
      | inr q ↦ filled_after b level class (xs ++ ys) zs g (λ x y i k. closed x y i k (or_mid y w xs ys (c x y (with_mid x w xs ys i) k))) pre v q.0 q.1 u t
    ]
  where
    closed : (x y : ValueRecord) → In x (xs ++ ys) → IsTakenBy b y x → In y (xs ++ ys) ⊎ (w ≡ y) → In y (xs ++ ys)
    closed x y i k (inl j) = j
    closed x y i k (inr d) = absurd (free x (with_mid x w xs ys i) (let P : ValueRecord → Type 0 = λ z. IsTakenBy b z x in subst P (sym d) k))

    here : w ≡ v → In u zs
    here d = go (or_mid u w xs ys (c w u (mid w xs ys) taken))
      where
        taken : IsTakenBy b u w
        taken = (let P : ValueRecord → Type 0 = λ z. IsTakenBy b u z in subst P (sym d) t)

        go : In u (xs ++ ys) ⊎ (w ≡ u) → In u zs
        go (inl i) = filled_in b level class (xs ++ ys) zs g u i
        go (inr k) = absurd (free w (mid w xs ys) (let P : ValueRecord → Type 0 = λ z. IsTakenBy b z w in subst P (sym k) taken))

-- an element as one before and one after
parted : {A : Type 0} (x : A) (xs : List A) → In x xs → (pre : List A) × (post : List A) × (xs ≡ pre ++ x ∷ post)
parted x [] i = elim i [ ]
parted {A} x (y ∷ ys) (inl d) = ([], ys, ap (λ (z : A). z ∷ ys) d)
parted x (y ∷ ys) (inr i) = let r = parted x ys i in (y ∷ r.0, r.1, ap (λ zs. y ∷ zs) r.2)

-- so what was done takes nothing that comes later
pub done_closed : (b : BlockRecord) (level class : ValueRecord → ℕ) (ls : List ValueRecord) → Filled b level class b.values ls → (pre post : List ValueRecord) → ls ≡ pre ++ post → IsClosedList b pre
done_closed b level class ls g pre post e x u i t =
    let q = parted x pre i in
    let all : IsClosedList b b.values = λ y v j k. to_in v b.values k.0 in
    let k = filled_after b level class b.values ls g all q.0 x (q.1 ++ post) (e ∙ ap (λ (ws : List ValueRecord). ws ++ post) q.2 ∙ append_assoc q.0 (x ∷ q.1) post) u t in
    let P : List ValueRecord → Type 0 = λ ws. In u ws in
    subst P (sym q.2) (in_left u q.0 (x ∷ q.1) k)

-- and needs nothing of it
pub done_needs_not : (s : Setting) (f : FuncRecord) → Sound s f → (b : BlockRecord) → HasBlock f b → (level class : ValueRecord → ℕ) (ls : List ValueRecord) → Filled b level class b.values ls →
    (pre : List ValueRecord) (v : ValueRecord) (post : List ValueRecord) → ls ≡ pre ++ v ∷ post → (u : ValueRecord) → In u pre → ¬ Needs b u v
done_needs_not s f h b i level class ls g pre v post e u j n =
    let c = done_closed b level class ls g pre (v ∷ post) e in
    let P : List ValueRecord → Type 0 = λ ws. Once ws in
    (once_parts v pre post (subst P e (filled_once b level class b.values ls g (h.named.once b i)))).0 (needed_in b pre c u v j n)

-- the state of memory after values
abbrev pub memory_after : ℕ → List ValueRecord → ℕ
memory_after n [] = n
memory_after n (v ∷ vs) = memory_after (if has_effect v then v.id else n) vs

after_still : (n : ℕ) (xs ys : List ValueRecord) → Still xs → memory_after n (xs ++ ys) ≡ memory_after n ys
after_still n [] ys h = refl
after_still n (x ∷ xs) ys h = ap (λ t. memory_after (if t then x.id else n) (xs ++ ys)) h.0 ∙ after_still n xs ys h.1

still_front : (xs ys : List ValueRecord) → Still (xs ++ ys) → Still xs
still_front [] ys h = tt
still_front (x ∷ xs) ys h = (h.0, still_front xs ys h.1)

still_in : (v : ValueRecord) (xs : List ValueRecord) → Still xs → In v xs → has_effect v ≡ false
still_in v [] h i = elim i [ ]
still_in v (x ∷ xs) h (inl d) = ap has_effect (sym d) ∙ h.0
still_in v (x ∷ xs) h (inr i) = still_in v xs h.1 i

-- two ways to part a list
abbrev Apart : {A : Type 0} → List A → List A → List A → A → List A → Type 0
Apart {A} xs ys pre x post = ((more : List A) × (xs ≡ pre ++ x ∷ more)) ⊎ ((less : List A) × (pre ≡ xs ++ less) × (ys ≡ less ++ x ∷ post))

part_at : {A : Type 0} (xs ys pre : List A) (x : A) (post : List A) → xs ++ ys ≡ pre ++ x ∷ post → Apart xs ys pre x post
part_at [] ys pre x post e = inr (pre, refl, e)
part_at {A} (z ∷ zs) ys [] x post e = let a : z ≡ x = cc in inl (zs, ap (λ (y : A). y ∷ zs) a)
part_at {A} (z ∷ zs) ys (p ∷ pre) x post e =
    let a : z ≡ p = cc in
    let b : zs ++ ys ≡ pre ++ x ∷ post = cc in
    elim (part_at zs ys pre x post b) as (λ _. Apart (z ∷ zs) ys (p ∷ pre) x post) [
      | inl q ↦ inl (q.0, (let c = q.1 in let d : z ∷ zs ≡ p ∷ (pre ++ x ∷ q.0) = cc in d))
      | inr q ↦ inr (q.0, (let c = q.1 in let d : p ∷ pre ≡ z ∷ (zs ++ q.0) = cc in d), q.2)
    ]

-- at its turn a value that is done at a state names the state that memory is in
pub placed_state : (f : FuncRecord) (n : ℕ) (ls : List ValueRecord) → Placed f n ls → (pre : List ValueRecord) (v : ValueRecord) (post : List ValueRecord) → ls ≡ pre ++ v ∷ post → acts v ≡ true →
    state_of f v ≡ Some (memory_after n pre)
placed_state f _ _ (ends n seg still named) pre v post e a =
    let P : List ValueRecord → Type 0 = λ ws. Still ws in
    let R : List ValueRecord → Type 0 = λ ws. AllNamed f n ws in
    in_still f n pre v post (subst P e still) (subst R e named) a
  where
    in_still : (f : FuncRecord) (n : ℕ) (pre : List ValueRecord) (v : ValueRecord) (post : List ValueRecord) → Still (pre ++ v ∷ post) → AllNamed f n (pre ++ v ∷ post) → acts v ≡ true → state_of f v ≡ Some (memory_after n pre)
    in_still f n pre v post still named a = go (or_cases (has_effect v) (asks v) a)
      where
        same : memory_after n pre ≡ n
        same = ap (memory_after n) (sym (append-nil pre)) ∙ after_still n pre [] (still_front pre (v ∷ post) still)

        go : (has_effect v ≡ true) ⊎ (asks v ≡ true) → state_of f v ≡ Some (memory_after n pre)
        go (inl q) = let k = still_in v (pre ++ v ∷ post) still (in_right v pre (v ∷ post) (inl refl)) in absurd cc
        go (inr q) = named v (in_right v pre (v ∷ post) (inl refl)) q ∙ ap Some (sym same)
placed_state f _ _ (goes n seg ls w still named act t placed) pre v post e a =
    go (part_at seg (w ∷ ls) pre v post e) (λ less k. placed_state f w.id ls placed less v post k a)
  where
    same : (xs : List ValueRecord) → memory_after n (seg ++ w ∷ xs) ≡ memory_after w.id xs
    same xs = after_still n seg (w ∷ xs) still ∙ ap (λ t. memory_after (if t then w.id else n) xs) act

    inner : (more : List ValueRecord) → seg ≡ pre ++ v ∷ more → (has_effect v ≡ true) ⊎ (asks v ≡ true) → state_of f v ≡ Some (memory_after n pre)
    inner more k (inl q) =
        let P : List ValueRecord → Type 0 = λ ws. In v ws in
        let x = still_in v seg still (subst P (sym k) (in_right v pre (v ∷ more) (inl refl))) in
        absurd cc
    inner more k (inr q) =
        let P : List ValueRecord → Type 0 = λ ws. In v ws in
        let R : List ValueRecord → Type 0 = λ ws. Still ws in
        named v (subst P (sym k) (in_right v pre (v ∷ more) (inl refl))) q
        ∙ ap Some (sym (ap (memory_after n) (sym (append-nil pre)) ∙ after_still n pre [] (still_front pre (v ∷ more) (subst R k still))))

    rest : (less : List ValueRecord) → pre ≡ seg ++ less → w ∷ ls ≡ less ++ v ∷ post → ((less : List ValueRecord) → ls ≡ less ++ v ∷ post → state_of f v ≡ Some (memory_after w.id less)) →
        state_of f v ≡ Some (memory_after n pre)
    rest [] k l next =
        let d : w ≡ v = cc in
        ap (state_of f) (sym d) ∙ t ∙ ap Some (sym (ap (memory_after n) k ∙ after_still n seg [] still))
    rest (x ∷ less) k l next =
        let d : x ≡ w = cc in
        let y : ls ≡ less ++ v ∷ post = cc in
        next less y ∙ ap Some (sym (ap (memory_after n) k ∙ ap (λ (z : ValueRecord). memory_after n (seg ++ z ∷ less)) d ∙ same less))

    go : Apart seg (w ∷ ls) pre v post → ((less : List ValueRecord) → ls ≡ less ++ v ∷ post → state_of f v ≡ Some (memory_after w.id less)) → state_of f v ≡ Some (memory_after n pre)
    go (inl q) next = inner q.0 q.1 (or_cases (has_effect v) (asks v) a)
    go (inr q) next = rest q.0 q.1 q.2 next

-- one value after the other

pub halted_same : (o : Option Outcome) (a : Activation) (w : World) → IfGives (halted o a w) (λ d x. (d ≡ a) × (x ≡ w))
halted_same None a w = (refl, refl)
halted_same (Some o) a w = tt

-- what a value changes: windows and what calls gave at its own number alone, and the state of memory if it has an effect
abbrev pub OneStep : ValueRecord → Activation → World → Activation → World → Type 0
OneStep v a w d x = Agree a.env d.env Nowhere (λ n. (has_effect v ≡ true) × (n ≡ v.id)) × (IsShown a w → IsShown d x) × (d.memory ≡ (if has_effect v then v.id else a.memory))

pub one_step : (calls : Calls) (p : Program) (f : FuncRecord) (v : ValueRecord) (a : Activation) (w : World) → IfGives (one calls p f v a w) (OneStep v a w)
one_step calls p f v a w = go (has_effect v) refl
  where
    acting : has_effect v ≡ true → (q : Run Activation) → IfGives q (λ d x. Agree a.env d.env Nowhere (λ n. n ≡ v.id) × IsShown d x × (d.memory ≡ v.id)) → IfGives q (OneStep v a w)
    acting e (stops o d) k = tt
    acting e (gives d x) k = (agree_wider a.env d.env Nowhere (λ n. n ≡ v.id) Nowhere (λ n. (has_effect v ≡ true) × (n ≡ v.id)) (λ n z. z) (λ n z. (e, z)) k.0, λ z. k.1, k.2 ∙ ap (λ t. if t then v.id else a.memory) (sym e))

    quiet : has_effect v ≡ false → (q : Run Activation) → IfGives q (λ d x. (d ≡ a) × (x ≡ w)) → IfGives q (OneStep v a w)
    quiet e (stops o d) k = tt
    quiet e (gives d x) (i, j) =
        let P : Activation → Type 0 = λ c. OneStep v a w c x in
        let R : World → Type 0 = λ z. OneStep v a w a z in
        subst P (sym i) (subst R (sym j) (agree_self a.env Nowhere (λ n. (has_effect v ≡ true) × (n ≡ v.id)), λ z. z, ap (λ t. if t then v.id else a.memory) (sym e)))

    go : (t : Bool) → has_effect v ≡ t → IfGives (if has_effect v then done_at calls p f v a w else halted (fault_at p.target (numbers p f a.env) w.window v) a w) (OneStep v a w)
    go true e = rw e (acting e (done_at calls p f v a w) (done_agrees calls p f v a w))
    go false e = rw e (quiet e (halted (fault_at p.target (numbers p f a.env) w.window v) a w) (halted_same (fault_at p.target (numbers p f a.env) w.window v) a w))

-- numbers at their turn

-- a load reads the window at hand, where it names the state that memory is in
pub load_number : (s : Setting) (f : FuncRecord) → Sound s f → (p : Program) (b : BlockRecord) (v : ValueRecord) → HasValue f b v → IsReached f b → origin_of v.op.family ≡ loaded → (a : Activation) (w : World) → IsShown a w →
    state_of f v ≡ Some a.memory →
    numbers p f a.env v.id ≡ made_of v.op.family v.ty v.op.a (read_at p.target v w.window (address_by p.target v (numbers p f a.env)))
load_number s f h p b v i r o a w shown t =
    solved p f a.env (IsLive f) (rank f) (ranks s f h) v.id (record { block = b; value = v; stands = i; named = refl; reached = r })
    ∙ rw (found_value f h.named b v v.id i refl, o, t)
    (ap (λ (d : List ℕ). made_of v.op.family v.ty v.op.a (read_at p.target v d (address_by p.target v (numbers p f a.env)))) shown)

-- the number of a result, of what its call gave
abbrev pub number_given : Program → FuncRecord → ValueRecord → List ℕ → ℕ
number_given p f v given = cut_result v.op.family p.target v.ty (slice_index given (result_place v.op.family p f v))

pub result_number : (s : Setting) (f : FuncRecord) → Sound s f → (p : Program) (b : BlockRecord) (v : ValueRecord) → HasValue f b v → IsReached f b → origin_of v.op.family ≡ result → (a : Activation) →
    numbers p f a.env v.id ≡ number_given p f v (a.env.given (slice_index v.args 0))
result_number s f h p b v i r o a =
    solved p f a.env (IsLive f) (rank f) (ranks s f h) v.id (record { block = b; value = v; stands = i; named = refl; reached = r })
    ∙ rw (found_value f h.named b v v.id i refl, o) refl

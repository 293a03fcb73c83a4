-- What a schedule keeps: the order, each value, and itself.
use Rattle.std.proofs.Common.{◌≡◌, ◌∙◌, sym, refl, ap, subst, ℕ, ◌+◌, ◌==◌, ◌⊎◌, inl, inr, ⊎_elim, List, [], ◌∷◌, ◌++◌, map, cond, arith, length, ◌≤◌}
use Rattle.std.specs.Prelude.{count_by, sum_by}
use Rattle.std.specs.List.{Contains}
use Rattle.std.proofs.lemmas.List.{length-append, map-append}
use Rattle.std.proofs.lemmas.List.Sums.{sum_by-append, sum_by-cons}
use Rattle.bk_func.proofs.Faults.{In}
use Rattle.bk_func.specs.Records.{ValueRecord, BlockRecord}
use Rattle.bk_places.proofs.Elements.{to_in, to_contains, in_left, in_right, in_either}
use Rattle.bk_sched.specs.Order.{Precedes, right, onward}
use Rattle.bk_sched.specs.Schedule.{IsReady, Scheduled, done, next}

mid : (v : ValueRecord) (xs ys : List ValueRecord) → In v (xs ++ v ∷ ys)
mid v xs ys = in_right v xs (v ∷ ys) (inl refl)

with_mid : (x v : ValueRecord) (xs ys : List ValueRecord) → In x (xs ++ ys) → In x (xs ++ v ∷ ys)
with_mid x v xs ys i = ⊎_elim (λ (j : In x xs). in_left x xs (v ∷ ys) j) (λ (j : In x ys). in_right x xs (v ∷ ys) (inr j)) (in_either x xs ys i)

-- what is scheduled was left
pub in_scheduled : (b : BlockRecord) (xs zs : List ValueRecord) → Scheduled b xs zs → (v : ValueRecord) → In v zs → In v xs
in_scheduled b _ _ (done xs none) v i = elim i [ ]
in_scheduled b _ _ (next xs ys zs w ready front back g) v (inl d) = subst (λ (x : ValueRecord). In x (xs ++ w ∷ ys)) d (mid w xs ys)
in_scheduled b _ _ (next xs ys zs w ready front back g) v (inr i) = with_mid v w xs ys (in_scheduled b (xs ++ ys) zs g v i)

-- no value stands before one that comes before it
pub keeps : (b : BlockRecord) (xs zs : List ValueRecord) → Scheduled b xs zs → (pre : List ValueRecord) (v : ValueRecord) (post : List ValueRecord) → zs ≡ pre ++ v ∷ post → (u : ValueRecord) → In u post → ¬ Precedes b u v
keeps b _ _ (done xs none) [] v post e u i = absurd cc
keeps b _ _ (done xs none) (p ∷ pre) v post e u i = absurd cc
keeps b _ _ (next xs ys zs w ready front back g) [] v post e u i =
    let d : w ≡ v = cc in
    let q : zs ≡ post = cc in
    let P : List ValueRecord → Type 0 = λ ws. In u ws in
    let R : ValueRecord → Type 0 = λ x. ¬ Precedes b u x in
    subst R d (ready u (to_contains u (xs ++ w ∷ ys) (with_mid u w xs ys (in_scheduled b (xs ++ ys) zs g u (subst P (sym q) i)))))
keeps b _ _ (next xs ys zs w ready front back g) (p ∷ pre) v post e u i =
    let q : zs ≡ pre ++ v ∷ post = cc in
    keeps b (xs ++ ys) zs g pre v post q u i

-- what comes before something goes on
precedes_on : (b : BlockRecord) (t u v : ValueRecord) → Precedes b t u → Precedes b u v → Precedes b t v
precedes_on b _ _ v (right t u c) more = onward t u v c more
precedes_on b _ _ v (onward s t u c rest) more = onward s t v c (precedes_on b t u v rest more)

-- where none of the values precedes itself, some value is ready
some_ready : (b : BlockRecord) (x : ValueRecord) (xs : List ValueRecord) → ((v : ValueRecord) → In v (x ∷ xs) → ¬ Precedes b v v)
    → ((m : ValueRecord) → In m (x ∷ xs) → ((u : ValueRecord) → In u (x ∷ xs) → ¬ Precedes b u m) → ⊥) → ⊥
some_ready b x [] alone never = never x (inl refl) (λ u i before. ⊎_elim (λ (e : x ≡ u). alone x (inl refl) (subst (λ (w : ValueRecord). Precedes b w x) (sym e) before)) (λ (j : In u []). elim j [ ]) i)
some_ready b x (y ∷ ys) alone never = some_ready b y ys (λ v i. alone v (inr i)) (λ m i least.
    let other : ¬ Precedes b x m = λ before.
    never x (inl refl) (λ u j first. ⊎_elim
    (λ (e : x ≡ u). alone x (inl refl) (subst (λ (w : ValueRecord). Precedes b w x) (sym e) first))
    (λ (k : In u (y ∷ ys)). least u k (precedes_on b u x m first before))
    j) in
    never m (inr i) (λ u j before. ⊎_elim
    (λ (e : x ≡ u). other (subst (λ (w : ValueRecord). Precedes b w m) (sym e) before))
    (λ (k : In u (y ∷ ys)). least u k before)
    j))

-- so each value is done
pub all_scheduled : (b : BlockRecord) (xs zs : List ValueRecord) → Scheduled b xs zs → ((v : ValueRecord) → In v xs → ¬ Precedes b v v) → (v : ValueRecord) → In v xs → In v zs
all_scheduled b _ _ (done [] none) alone v i = i
all_scheduled b _ _ (done (x ∷ xs) none) alone v i =
    absurd (some_ready b x xs alone (λ m j ready. none m (to_contains m (x ∷ xs) j) (λ u c. ready u (to_in u (x ∷ xs) c))))
all_scheduled b _ _ (next xs ys zs w ready front back g) alone v i =
    ⊎_elim
    (λ (j : In v xs). inr (all_scheduled b (xs ++ ys) zs g (λ u k. alone u (with_mid u w xs ys k)) v (in_left v xs ys j)))
    (λ (j : In v (w ∷ ys)). ⊎_elim
    (λ (e : w ≡ v). inl e)
    (λ (k : In v ys). inr (all_scheduled b (xs ++ ys) zs g (λ u l. alone u (with_mid u w xs ys l)) v (in_right v xs ys k)))
    j)
    (in_either v xs (w ∷ ys) i)

pub short : (b : BlockRecord) (xs zs : List ValueRecord) → Scheduled b xs zs → length zs ≤ length xs
short b _ _ (done xs none) = omega arith
short b _ _ (next xs ys zs w ready front back g) =
    let a = short b (xs ++ ys) zs g in
    let c = length-append xs (w ∷ ys) in
    let d = length-append xs ys in
    omega (arith, a, c, d)

-- and as often as it is listed
abbrev pub count_ids : ℕ → List ValueRecord → ℕ
count_ids n vs = count_by (λ m. m == n) (map (λ v. v.id) vs)

count_cut : (n : ℕ) (xs ys : List ValueRecord) (v : ValueRecord) → count_ids n (xs ++ v ∷ ys) ≡ cond (v.id == n) 1 0 + count_ids n (xs ++ ys)
count_cut n xs ys v =
    let g : ℕ → ℕ = λ m. cond (m == n) 1 0 in
    let f : ValueRecord → ℕ = λ w. w.id in
    let a : count_ids n (xs ++ v ∷ ys) ≡ sum_by g (map f xs) + sum_by g (v.id ∷ map f ys) = ap (sum_by g) (map-append f xs (v ∷ ys)) ∙ sum_by-append g (map f xs) (map f (v ∷ ys)) in
    let c : count_ids n (xs ++ ys) ≡ sum_by g (map f xs) + sum_by g (map f ys) = ap (sum_by g) (map-append f xs ys) ∙ sum_by-append g (map f xs) (map f ys) in
    let k = sum_by-cons g v.id (map f ys) in
    omega (arith, a, c, k)

pub counts : (b : BlockRecord) (n : ℕ) (xs zs : List ValueRecord) → Scheduled b xs zs → ((v : ValueRecord) → In v xs → ¬ Precedes b v v) → count_ids n zs ≡ count_ids n xs
counts b n _ _ (done [] none) alone = refl
counts b n _ _ (done (x ∷ xs) none) alone =
    absurd (some_ready b x xs alone (λ m i ready. none m (to_contains m (x ∷ xs) i) (λ u c. ready u (to_in u (x ∷ xs) c))))
counts b n _ _ (next xs ys zs w ready front back g) alone =
    let rest = counts b n (xs ++ ys) zs g (λ v i. alone v (with_mid v w xs ys i)) in
    let cut = count_cut n xs ys w in
    let k = sum_by-cons (λ m. cond (m == n) 1 0) w.id (map (λ (v : ValueRecord). v.id) zs) in
    omega (arith, rest, cut, k)

-- two cuts of one list
record Cuts (xs ys us ws : List ValueRecord) (v w : ValueRecord) : Type 0 where
  pub front : xs ≡ us
  pub here : v ≡ w
  pub back : ys ≡ ws

cuts : (xs ys us ws : List ValueRecord) (v w : ValueRecord) → xs ++ v ∷ ys ≡ us ++ w ∷ ws → Cuts xs ys us ws v w ⊎ (In w xs × In v ws) ⊎ (In v us × In w ys)
cuts [] ys [] ws v w e = inl (record { front = refl; here = cc; back = cc })
cuts [] ys (u ∷ us) ws v w e =
    let head : v ≡ u = cc in
    let tail : ys ≡ us ++ w ∷ ws = cc in
    inr (inr (inl (sym head), subst (λ (zs : List ValueRecord). In w zs) (sym tail) (mid w us ws)))
cuts (x ∷ xs) ys [] ws v w e =
    let head : x ≡ w = cc in
    let tail : xs ++ v ∷ ys ≡ ws = cc in
    inr (inl (inl head, subst (λ (zs : List ValueRecord). In v zs) tail (mid v xs ys)))
cuts (x ∷ xs) ys (u ∷ us) ws v w e =
    let head : x ≡ u = cc in
    let tail : xs ++ v ∷ ys ≡ us ++ w ∷ ws = cc in
    ⊎_elim
    (λ (c : Cuts xs ys us ws v w). inl (record { front = ap (λ zs. x ∷ zs) c.front ∙ ap (λ y. y ∷ us) head; here = c.here; back = c.back }))
    (λ (r : (In w xs × In v ws) ⊎ (In v us × In w ys)). ⊎_elim (λ (p : In w xs × In v ws). inr (inl (inr p.0, p.1))) (λ (p : In v us × In w ys). inr (inr (inr p.0, p.1))) r)
    (cuts xs ys us ws v w tail)

-- there is one schedule
pub one : (b : BlockRecord) (ls zs : List ValueRecord) → Scheduled b ls zs → (ms ws : List ValueRecord) → Scheduled b ms ws → ls ≡ ms → zs ≡ ws
one b _ _ (done ls none) _ _ (done ms none') e = refl
one b _ _ (done ls none) _ _ (next xs ys zs w ready front back g) e =
    let in_ls : Contains ls w = subst (λ (ks : List ValueRecord). Contains ks w) (sym e) (to_contains w (xs ++ w ∷ ys) (mid w xs ys)) in
    absurd (none w in_ls (subst (λ (ks : List ValueRecord). IsReady b ks w) (sym e) ready))
one b _ _ (next xs ys zs v ready front back g) _ _ (done ms none) e =
    let in_ms : Contains ms v = subst (λ (ks : List ValueRecord). Contains ks v) e (to_contains v (xs ++ v ∷ ys) (mid v xs ys)) in
    absurd (none v in_ms (subst (λ (ks : List ValueRecord). IsReady b ks v) e ready))
one b _ _ (next xs ys zs v ready front back g) _ _ (next us vs ws w ready' front' back' h) e =
    ⊎_elim
    (λ (c : Cuts xs ys us vs v w).
    let rest : zs ≡ ws = one b (xs ++ ys) zs g (us ++ vs) ws h (ap (λ ks. ks ++ ys) c.front ∙ ap (λ ks. us ++ ks) c.back) in
    ap (λ (x : ValueRecord). x ∷ zs) c.here ∙ ap (λ ks. w ∷ ks) rest)
    (λ (r : (In w xs × In v vs) ⊎ (In v us × In w ys)). ⊎_elim
    (λ (p : In w xs × In v vs).
    let l = front w (to_contains w xs p.0) (subst (λ (ks : List ValueRecord). IsReady b ks w) (sym e) ready') in
    let m = back' v (to_contains v vs p.1) (subst (λ (ks : List ValueRecord). IsReady b ks v) e ready) in
    absurd (omega (arith, l, m)))
    (λ (p : In v us × In w ys).
    let l = front' v (to_contains v us p.0) (subst (λ (ks : List ValueRecord). IsReady b ks v) e ready) in
    let m = back w (to_contains w ys p.1) (subst (λ (ks : List ValueRecord). IsReady b ks w) (sym e) ready') in
    absurd (omega (arith, l, m)))
    r)
    (cuts xs ys us vs v w e)

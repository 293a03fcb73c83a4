-- Functions and variables together, one variable more.
use Rattle.std.proofs.Common.{◌≡◌, ◌∙◌, ap, ℕ, zero, suc, ◌+◌, ◌<◌, ◌≤◌, ◌≢◌, Bool, true, false, cond, List, [], ◌∷◌, ◌++◌, length, take, drop, subst, sym, refl, arith, length-append}
use Rattle.std.specs.Prelude.{nat_lt}
use Rattle.std.specs.List.{All, AllPairs}
use Rattle.std.proofs.lemmas.Bool.Decides.{nat_tests}
use Rattle.std.proofs.lemmas.List.{append_assoc, take-append-drop}
use Rattle.std.proofs.lemmas.List.Elements.{All-append, All-cons, All-nil, All-head, All-tail, All-take, All-drop, All-weaker}
use Rattle.std.proofs.lemmas.List.Kept.{AllPairs-cons}
use Rattle.bk_link.specs.declared.sites.Site.{Site}
use Rattle.bk_link.specs.Sites.{count_before, by_name}
use Rattle.bk_link.specs.Conditions.{IsLow}

pub by_name_more : (out rest : List Site) (v : Site) (vs : List Site)
    → (out ++ (take (count_before v.name rest) rest ++ v ∷ [])) ++ by_name (drop (count_before v.name rest) rest) vs ≡ out ++ by_name rest (v ∷ vs)
unfolding by_name
by_name_more out rest v vs =
    append_assoc out (take (count_before v.name rest) rest ++ v ∷ []) (by_name (drop (count_before v.name rest) rest) vs)
    ∙ ap (λ l. out ++ l) (append_assoc (take (count_before v.name rest) rest) (v ∷ []) (by_name (drop (count_before v.name rest) rest) vs))

-- what holds of functions and of variables holds of them together
pub all_by_name : (P : Site → Type 0) (fs vs : List Site) → All P fs → All P vs → All P (by_name fs vs)
unfolding by_name
all_by_name P fs [] f v = f
all_by_name P fs (x ∷ vs) f v =
    All-append P (take (count_before x.name fs) fs) (x ∷ by_name (drop (count_before x.name fs) fs) vs) (All-take P (count_before x.name fs) fs f)
    (All-cons P x (by_name (drop (count_before x.name fs) fs) vs) (All-head P x vs v) (all_by_name P (drop (count_before x.name fs) fs) vs (All-drop P (count_before x.name fs) fs f) (All-tail P x vs v)))

-- all lie low where the functions and the variables do
pub low_by_name : (fs vs ss : List Site) → ss ≡ by_name fs vs → All IsLow fs → All IsLow vs → All IsLow ss
low_by_name fs vs ss e f v = subst (All IsLow) (sym e) (all_by_name IsLow fs vs f v)

-- none is lost
pub length_by_name : (fs vs : List Site) → length (by_name fs vs) ≡ length fs + length vs
unfolding by_name
length_by_name fs [] = omega arith
length_by_name fs (v ∷ vs) =
    let k = count_before v.name fs in
    let whole : length (take k fs ++ drop k fs) ≡ length fs = ap length (take-append-drop k fs) in
    let rest = length_by_name (drop k fs) vs in
    omega (arith, whole, rest, length-append (take k fs) (drop k fs), length-append (take k fs) (v ∷ by_name (drop k fs) vs))

-- names that rise
abbrev pub AreInOrder : List Site → Type 0
AreInOrder ss = AllPairs (λ s r. s.name < r.name) ss

tail_of : (s : Site) (ss : List Site) → AreInOrder (s ∷ ss) → AreInOrder ss
tail_of s ss h i j d lt within = h (suc i) (suc j) d (omega (arith, lt)) (omega (arith, within))

head_of : (s : Site) (ss : List Site) → AreInOrder (s ∷ ss) → All (λ r. s.name < r.name) ss
head_of s ss h k d within = h 0 (suc k) d (omega arith) (omega (arith, within))

taken : (k : ℕ) (ss : List Site) → AreInOrder ss → AreInOrder (take k ss)
taken zero ss h = λ i j d lt within. absurd (omega (arith, within))
taken (suc k) [] h = h
taken (suc k) (s ∷ ss) h = AllPairs-cons (λ s r. s.name < r.name) s (take k ss) (All-take (λ r. s.name < r.name) k ss (head_of s ss h)) (taken k ss (tail_of s ss h))

dropped : (k : ℕ) (ss : List Site) → AreInOrder ss → AreInOrder (drop k ss)
dropped zero ss h = h
dropped (suc k) [] h = h
dropped (suc k) (s ∷ ss) h = dropped k ss (tail_of s ss h)

joined : (ss rs : List Site) → AreInOrder ss → AreInOrder rs → All (λ s. All (λ r. s.name < r.name) rs) ss → AreInOrder (ss ++ rs)
joined [] rs a b h = b
joined (s ∷ ss) rs a b h =
    let P : Site → Type 0 = λ s. All (λ r. s.name < r.name) rs in
    AllPairs-cons (λ s r. s.name < r.name) s (ss ++ rs) (All-append (λ r. s.name < r.name) ss rs (head_of s ss a) (All-head P s ss h)) (joined ss rs (tail_of s ss a) b (All-tail P s ss h))

-- the sites before a name
before : (name : ℕ) (ss : List Site) → All (λ s. s.name < name) (take (count_before name ss) ss)
before name [] = All-nil (λ (s : Site). s.name < name)
before name (s ∷ ss) = by (nat_lt s.name name) refl (before name ss)
  where
    by : (b : Bool) → nat_lt s.name name ≡ b → All (λ s. s.name < name) (take (count_before name ss) ss) → All (λ s. s.name < name) (take (cond b (1 + count_before name ss) 0) (s ∷ ss))
    by true e rest =
        let l : s.name < name = grind (arith, nat_tests) in
        let n : 1 + count_before name ss ≡ suc (count_before name ss) = omega arith in
        subst (λ k. All (λ (s : Site). s.name < name) (take k (s ∷ ss))) (sym n) (All-cons (λ (s : Site). s.name < name) s (take (count_before name ss) ss) l rest)
    by false e rest = All-nil (λ (s : Site). s.name < name)

-- and the others
behind : (name : ℕ) (ss : List Site) → AreInOrder ss → All (λ s. name ≤ s.name) (drop (count_before name ss) ss)
behind name [] h = All-nil (λ (s : Site). name ≤ s.name)
behind name (s ∷ ss) h = by (nat_lt s.name name) refl (behind name ss (tail_of s ss h))
  where
    by : (b : Bool) → nat_lt s.name name ≡ b → All (λ s. name ≤ s.name) (drop (count_before name ss) ss) → All (λ s. name ≤ s.name) (drop (cond b (1 + count_before name ss) 0) (s ∷ ss))
    by true e rest =
        let n : 1 + count_before name ss ≡ suc (count_before name ss) = omega arith in
        subst (λ k. All (λ (s : Site). name ≤ s.name) (drop k (s ∷ ss))) (sym n) rest
    by false e rest =
        let l : name ≤ s.name = grind (arith, nat_tests) in
        All-cons (λ (s : Site). name ≤ s.name) s ss l (All-weaker (λ (r : Site). s.name < r.name) (λ (r : Site). name ≤ r.name) (λ r m. omega (arith, l, m)) ss (head_of s ss h))

-- where the names of each rise, and no name is in both
pub in_order : (fs vs : List Site) → AreInOrder fs → AreInOrder vs → All (λ f. All (λ v. f.name ≢ v.name) vs) fs → AreInOrder (by_name fs vs)
unfolding by_name
in_order fs [] a b h = a
in_order fs (v ∷ vs) a b h =
    let k = count_before v.name fs in
    let own = All-weaker (λ (f : Site). All (λ v. f.name ≢ v.name) (v ∷ vs)) (λ (f : Site). f.name ≢ v.name) (λ f m. All-head (λ (v : Site). f.name ≢ v.name) v vs m) fs h in
    let others = All-weaker (λ (f : Site). All (λ v. f.name ≢ v.name) (v ∷ vs)) (λ (f : Site). All (λ v. f.name ≢ v.name) vs) (λ f m. All-tail (λ (v : Site). f.name ≢ v.name) v vs m) fs h in
    let rest = in_order (drop k fs) vs (dropped k fs a) (tail_of v vs b) (All-drop (λ (f : Site). All (λ v. f.name ≢ v.name) vs) k fs others) in
    let far : All (λ s. v.name < s.name) (drop k fs) =
    λ i d within. let le = behind v.name fs a i d within in let ne = All-drop (λ (f : Site). f.name ≢ v.name) k fs own i d within in omega (arith, le, ne) in
    let above = all_by_name (λ (s : Site). v.name < s.name) (drop k fs) vs far (head_of v vs b) in
    let near = before v.name fs in
    joined (take k fs) (v ∷ by_name (drop k fs) vs) (taken k fs a) (AllPairs-cons (λ s r. s.name < r.name) v (by_name (drop k fs) vs) above rest)
    (All-weaker (λ (s : Site). s.name < v.name) (λ (s : Site). All (λ r. s.name < r.name) (v ∷ by_name (drop k fs) vs))
    (λ s m. All-cons (λ (r : Site). s.name < r.name) v (by_name (drop k fs) vs) m (All-weaker (λ (r : Site). v.name < r.name) (λ (r : Site). s.name < r.name) (λ r n. omega (arith, m, n)) (by_name (drop k fs) vs) above)) (take k fs) near)

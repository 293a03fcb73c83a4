-- The turns of places as the order of the values that stand there.
use Rattle.std.proofs.Common.{◌≡◌, ◌∙◌, sym, refl, ap, subst, ℕ, zero, suc, ◌+◌, ◌<◌, ◌≤◌, inl, inr, ⊎_elim, List, [], ◌∷◌, ◌++◌, map, length, get_or, Some, append_assoc, arith}
use Rattle.std.specs.Prelude.{slice_index}
use Rattle.std.specs.List.{Contains, range_with_len, slice_get}
use Rattle.std.specs.Option.{option_map}
use Rattle.std.proofs.lemmas.List.{length-map}
use Rattle.std.proofs.lemmas.Option.{get_or_from_slice_get, slice_get-map, slice_get_within}
use Rattle.bk_func.proofs.Faults.{In}
use Rattle.bk_func.specs.Records.{ValueRecord, BlockRecord}
use Rattle.bk_places.proofs.Elements.{at_contains, to_in, to_contains, in_either, in_left, in_right}
use Rattle.bk_places.proofs.Leading.{leads_on}
use Rattle.bk_places.specs.Search.{IsEdge, Leads, Path, here, onward}
use Rattle.bk_sched.specs.Arranged.{IsOrder}
use Rattle.bk_sched.specs.Order.{ComesBefore, Precedes, argument, checks, needed, right, state, unneeded, onward as further}
use Rattle.bk_sched.specs.Schedule.{IsReady, IsSchedule, Scheduled, done as no_more, next as goes_on, rank_of}
use Rattle.bk_sched.specs.Turns.{IsFree, Turned, done, next}
use Rattle.bk_places.proofs.Leaving.{range_all}

-- these values stand at these places
abbrev pub At : BlockRecord → List ℕ → List ValueRecord → Type 0
At b [] [] = Unit {0}
At b [] (v ∷ vs) = ⊥
At b (p ∷ ps) [] = ⊥
At b (p ∷ ps) (v ∷ vs) = (slice_get b.values p ≡ Some v) × At b ps vs

-- a place and a value of the lists
place_of : (b : BlockRecord) (ps : List ℕ) (vs : List ValueRecord) → At b ps vs → (v : ValueRecord) → In v vs → (p : ℕ) × In p ps × (slice_get b.values p ≡ Some v)
place_of b [] [] at v i = elim i [ ]
place_of b [] (u ∷ vs) at v i = absurd at
place_of b (p ∷ ps) [] at v i = elim i [ ]
place_of b (p ∷ ps) (u ∷ vs) at v (inl e) = (p, inl refl, at.0 ∙ ap Some e)
place_of b (p ∷ ps) (u ∷ vs) at v (inr i) = let (q, j, e) = place_of b ps vs at.1 v i in (q, inr j, e)

value_of : (b : BlockRecord) (ps : List ℕ) (vs : List ValueRecord) → At b ps vs → (p : ℕ) → In p ps → (v : ValueRecord) × In v vs × (slice_get b.values p ≡ Some v)
value_of b [] vs at p i = elim i [ ]
value_of b (q ∷ ps) [] at p i = absurd at
value_of b (q ∷ ps) (v ∷ vs) at p (inl e) = (v, inl refl, ap (slice_get b.values) (sym e) ∙ at.0)
value_of b (q ∷ ps) (v ∷ vs) at p (inr i) = let (u, j, e) = value_of b ps vs at.1 p i in (u, inr j, e)

-- the lists are cut at one place
record Split (b : BlockRecord) (xs : List ℕ) (p : ℕ) (ys : List ℕ) (vs : List ValueRecord) : Type 0 where
  pub us : List ValueRecord
  pub v : ValueRecord
  pub ws : List ValueRecord
  pub same : vs ≡ us ++ v ∷ ws
  pub front : At b xs us
  pub here : slice_get b.values p ≡ Some v
  pub back : At b ys ws

split : (b : BlockRecord) (xs : List ℕ) (p : ℕ) (ys : List ℕ) (vs : List ValueRecord) → At b (xs ++ p ∷ ys) vs → Split b xs p ys vs
split b [] p ys [] at = absurd at
split b [] p ys (v ∷ vs) at = record { us = []; v = v; ws = vs; same = refl; front = tt; here = at.0; back = at.1 }
split b (x ∷ xs) p ys [] at = absurd at
split b (x ∷ xs) p ys (u ∷ vs) at =
    let s = split b xs p ys vs at.1 in
    record { us = u ∷ s.us; v = s.v; ws = s.ws; same = ap (λ zs. u ∷ zs) s.same; front = (at.0, s.front); here = s.here; back = s.back }

joined : (b : BlockRecord) (xs ys : List ℕ) (us ws : List ValueRecord) → At b xs us → At b ys ws → At b (xs ++ ys) (us ++ ws)
joined b [] ys [] ws a c = c
joined b [] ys (u ∷ us) ws a c = absurd a
joined b (x ∷ xs) ys [] ws a c = absurd a
joined b (x ∷ xs) ys (u ∷ us) ws a c = (a.0, joined b xs ys us ws a.1 c)

-- edges lead from places of the list to places of the list
abbrev pub Stays : List (List ℕ) → List ℕ → Type 0
Stays es ps = (p q : ℕ) → In p ps → IsEdge es p q → In q ps

-- the last edge of a way comes from a place of the list
path_last : (es : List (List ℕ)) (ps : List ℕ) → Stays es ps → (s t : ℕ) → In s ps → IsEdge es s t → (q : ℕ) → Path es (length es) t q → In q ps × ((r : ℕ) × In r ps × IsEdge es r q)
path_last es ps stays s t i edge _ (here within) = (stays s t i edge, (s, i, edge))
path_last es ps stays s t i edge _ (onward r q path apart more within) = let (j, rest) = path_last es ps stays s t i edge r path in (stays r q j more, (r, j, more))

leads_last : (es : List (List ℕ)) (ps : List ℕ) → Stays es ps → (p q : ℕ) → In p ps → Leads es p q → (r : ℕ) × In r ps × IsEdge es r q
leads_last es ps stays p q i (t, edge, within, path) = (path_last es ps stays p t i edge q path).1

-- what precedes is led to
comes_second : (b : BlockRecord) (u v : ValueRecord) → ComesBefore b u v → Contains b.values v
comes_second b _ _ (argument u v taken) = taken.1
comes_second b _ _ (state u v s inside role names within is named) = within
comes_second b _ _ (checks u v s cu cv listed) = cv.0
comes_second b _ _ (needed u v w s cu lv cw needs first listed) = lv.0
comes_second b _ _ (unneeded u v s cu lv free) = lv.0

precedes_leads : (b : BlockRecord) (es : List (List ℕ)) → IsOrder b es → (u v : ValueRecord) → Precedes b u v → (p q : ℕ) → slice_get b.values p ≡ Some u → slice_get b.values q ≡ Some v → Leads es p q
precedes_leads b es order _ _ (right u v c) p q ep eq = order.whole p q u v ep eq c
precedes_leads b es order _ _ (further t u v c rest) p q ep eq =
    let (r, er) = at_contains b.values u (comes_second b t u c) in
    leads_on es p r q (order.whole p r t u ep er c) (precedes_leads b es order u v rest r q er eq)

-- a place is free where its value is ready
ready_free : (b : BlockRecord) (es : List (List ℕ)) → IsOrder b es → (ps : List ℕ) (vs : List ValueRecord) → At b ps vs → (q : ℕ) (u : ValueRecord) → slice_get b.values q ≡ Some u → IsReady b vs u → IsFree es ps q
ready_free b es order ps vs at q u eq ready r c edge =
    let (w, j, ew) = value_of b ps vs at r (to_in r ps c) in
    ready w (to_contains w vs j) (right w u (order.sound r q w u ew eq edge))

free_ready : (b : BlockRecord) (es : List (List ℕ)) → IsOrder b es → (ps : List ℕ) (vs : List ValueRecord) → At b ps vs → Stays es ps → (q : ℕ) (u : ValueRecord) → slice_get b.values q ≡ Some u → IsFree es ps q → IsReady b vs u
free_ready b es order ps vs at stays q u eq free w c before =
    let (r, j, er) = place_of b ps vs at w (to_in w vs c) in
    let (t, k, edge) = leads_last es ps stays r q j (precedes_leads b es order w u before r q er eq) in
    free t (to_contains t ps k) edge

score_at : (b : BlockRecord) (scores : List ℕ) → scores ≡ map rank_of b.values → (p : ℕ) (v : ValueRecord) → slice_get b.values p ≡ Some v → slice_index scores p ≡ rank_of v
score_at b scores same p v e =
    get_or_from_slice_get scores p (rank_of v) 0 (ap (λ xs. slice_get xs p) same ∙ (slice_get-map rank_of b.values p ∙ ap (option_map rank_of) e))

-- one more turn
turn : (b : BlockRecord) (es : List (List ℕ)) → IsOrder b es → (scores : List ℕ) → scores ≡ map rank_of b.values → (xs ys zs : List ℕ) (p : ℕ) → IsFree es (xs ++ p ∷ ys) p
    → ((q : ℕ) → Contains xs q → IsFree es (xs ++ p ∷ ys) q → slice_index scores p < slice_index scores q)
    → ((q : ℕ) → Contains ys q → IsFree es (xs ++ p ∷ ys) q → slice_index scores p ≤ slice_index scores q)
    → ((us : List ValueRecord) → At b (xs ++ ys) us → Stays es (xs ++ ys) → (ws : List ValueRecord) × Scheduled b us ws × At b zs ws)
    → (vs : List ValueRecord) → At b (xs ++ p ∷ ys) vs → Stays es (xs ++ p ∷ ys) → (ws : List ValueRecord) × Scheduled b vs ws × At b (p ∷ zs) ws
turn b es order scores same xs ys zs p free first second more vs at stays =
    let (ws, scheduled, there) = more (s.us ++ s.ws) (joined b xs ys s.us s.ws s.front s.back) still in
    (s.v ∷ ws, subst (λ (us : List ValueRecord). Scheduled b us (s.v ∷ ws)) (sym s.same) (goes_on s.us s.ws ws s.v ready before behind scheduled), (s.here, there))
  where
    s : Split b xs p ys vs
    s = split b xs p ys vs at

    all : At b (xs ++ p ∷ ys) (s.us ++ s.v ∷ s.ws)
    all = subst (λ (us : List ValueRecord). At b (xs ++ p ∷ ys) us) s.same at

    still : Stays es (xs ++ ys)
    still r q i edge = ⊎_elim
        (λ (j : In q xs). in_left q xs ys j)
        (λ (j : In q (p ∷ ys)). ⊎_elim
        (λ (is : p ≡ q). absurd (free r (to_contains r (xs ++ p ∷ ys) (was r i)) (subst (λ (k : ℕ). IsEdge es r k) (sym is) edge)))
        (λ (k : In q ys). in_right q xs ys k)
        j)
        (in_either q xs (p ∷ ys) (stays r q (was r i) edge))
      where
        was : (r : ℕ) → In r (xs ++ ys) → In r (xs ++ p ∷ ys)
        was r i = ⊎_elim (λ (j : In r xs). in_left r xs (p ∷ ys) j) (λ (j : In r ys). in_right r xs (p ∷ ys) (inr j)) (in_either r xs ys i)

    ready : IsReady b (s.us ++ s.v ∷ s.ws) s.v
    ready = free_ready b es order (xs ++ p ∷ ys) (s.us ++ s.v ∷ s.ws) all stays p s.v s.here free

    before : (u : ValueRecord) → Contains s.us u → IsReady b (s.us ++ s.v ∷ s.ws) u → rank_of s.v < rank_of u
    before u c r =
        let (q, i, eq) = place_of b xs s.us s.front u (to_in u s.us c) in
        let l = first q (to_contains q xs i) (ready_free b es order (xs ++ p ∷ ys) (s.us ++ s.v ∷ s.ws) all q u eq r) in
        omega (arith, l, score_at b scores same p s.v s.here, score_at b scores same q u eq)

    behind : (u : ValueRecord) → Contains s.ws u → IsReady b (s.us ++ s.v ∷ s.ws) u → rank_of s.v ≤ rank_of u
    behind u c r =
        let (q, i, eq) = place_of b ys s.ws s.back u (to_in u s.ws c) in
        let l = second q (to_contains q ys i) (ready_free b es order (xs ++ p ∷ ys) (s.us ++ s.v ∷ s.ws) all q u eq r) in
        omega (arith, l, score_at b scores same p s.v s.here, score_at b scores same q u eq)

-- the turns of places are those of their values
turns : (b : BlockRecord) (es : List (List ℕ)) → IsOrder b es → (scores : List ℕ) → scores ≡ map rank_of b.values → (ps order : List ℕ) → Turned scores es ps order → (vs : List ValueRecord) → At b ps vs → Stays es ps
    → (zs : List ValueRecord) × Scheduled b vs zs × At b order zs
turns b es order scores same _ _ (done ps none) vs at stays =
    ([], no_more vs (λ v c ready. let (q, i, eq) = place_of b ps vs at v (to_in v vs c) in none q (to_contains q ps i) (ready_free b es order ps vs at q v eq ready)), tt)
turns b es order scores same _ _ (next xs ys zs p free first second rest) vs at stays =
    turn b es order scores same xs ys zs p free first second (λ us there still. turns b es order scores same (xs ++ ys) zs rest us there still) vs at stays

-- all places, and the values of the block
middle : (pre : List ValueRecord) (v : ValueRecord) (vs : List ValueRecord) → slice_get (pre ++ v ∷ vs) (length pre) ≡ Some v
middle [] v vs = refl
middle (u ∷ pre) v vs = middle pre v vs

one_longer : (pre : List ValueRecord) (v : ValueRecord) → length (pre ++ v ∷ []) ≡ length pre + 1
one_longer [] v = refl
one_longer (u ∷ pre) v = let e = one_longer pre v in omega (arith, e)

all_places : (b : BlockRecord) (pre vs : List ValueRecord) (a : ℕ) → length pre ≡ a → b.values ≡ pre ++ vs → At b (range_with_len a (length vs)) vs
all_places b pre [] a e same = tt
all_places b pre (v ∷ vs) a e same = (
  ap (λ us. slice_get us a) same ∙ (ap (slice_get (pre ++ v ∷ vs)) (sym e) ∙ middle pre v vs),
  all_places b (pre ++ v ∷ []) vs (a + 1) (one_longer pre v ∙ ap (λ n. n + 1) e) (same ∙ sym (append_assoc pre (v ∷ []) vs)),
)

ids_of : (b : BlockRecord) (ps : List ℕ) (vs : List ValueRecord) → At b ps vs → map (λ p. slice_index (map (λ v. v.id) b.values) p) ps ≡ map (λ v. v.id) vs
ids_of b [] [] at = refl
ids_of b [] (v ∷ vs) at = absurd at
ids_of b (p ∷ ps) [] at = absurd at
ids_of b (p ∷ ps) (v ∷ vs) at =
    let e : slice_index (map (λ (v : ValueRecord). v.id) b.values) p ≡ v.id = get_or_from_slice_get (map (λ (v : ValueRecord). v.id) b.values) p v.id 0
    (slice_get-map (λ (v : ValueRecord). v.id) b.values p ∙ ap (option_map (λ (v : ValueRecord). v.id)) at.0) in
    ap (λ n. n ∷ map (λ p. slice_index (map (λ v. v.id) b.values) p) ps) e ∙ ap (λ ns. v.id ∷ ns) (ids_of b ps vs at.1)

at_low : (b : BlockRecord) (ps : List ℕ) (vs : List ValueRecord) → At b ps vs → (k d : ℕ) → k < length ps → get_or ps k d < length b.values
at_low b [] vs at k d l = absurd (omega (arith, l))
at_low b (p ∷ ps) [] at k d l = absurd at
at_low b (p ∷ ps) (v ∷ vs) at zero d l = slice_get_within b.values p v at.0
at_low b (p ∷ ps) (v ∷ vs) at (suc k) d l = at_low b ps vs at.1 k d (omega (arith, l))

whole_turn : (b : BlockRecord) (es : List (List ℕ)) → IsOrder b es → (scores : List ℕ) → scores ≡ map rank_of b.values → (order : List ℕ) → Turned scores es (range_with_len 0 (length scores)) order
    → (zs : List ValueRecord) × Scheduled b b.values zs × At b order zs
whole_turn b es is scores same order turned =
    let size : length scores ≡ length b.values = ap length same ∙ length-map b.values rank_of in
    turns b es is scores same (range_with_len 0 (length b.values)) order (subst (λ (n : ℕ). Turned scores es (range_with_len 0 n) order) size turned) b.values (all_places b [] b.values 0 refl refl)
    (λ p q i edge. range_all 0 (length b.values) q (omega arith) (let l = is.within p q edge in omega (arith, l)))

pub low_turn : (b : BlockRecord) (es : List (List ℕ)) → IsOrder b es → (scores : List ℕ) → scores ≡ map rank_of b.values → (order : List ℕ) → Turned scores es (range_with_len 0 (length scores)) order
    → (k d : ℕ) → k < length order → get_or order k d < length b.values
low_turn b es is scores same order turned = let (zs, s, at) = whole_turn b es is scores same order turned in at_low b order zs at

pub schedule_is : (b : BlockRecord) (es : List (List ℕ)) → IsOrder b es → (scores : List ℕ) → scores ≡ map rank_of b.values → (order : List ℕ) → Turned scores es (range_with_len 0 (length scores)) order
    → (ids : List ℕ) → ids ≡ map (λ p. slice_index (map (λ v. v.id) b.values) p) order → IsSchedule b ids
schedule_is b es is scores same order turned ids e = let (zs, s, at) = whole_turn b es is scores same order turned in (zs, s, e ∙ ids_of b order zs at)

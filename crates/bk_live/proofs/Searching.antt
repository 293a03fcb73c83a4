-- What a search for least distances has found after some of its steps.
use Rattle.std.proofs.Common.{◌≡◌, ◌≢◌, ◌∙◌, sym, refl, ap, subst, ℕ, ◌+◌, ◌<◌, ◌≤◌, ◌⊎◌, List, [], ◌∷◌, ◌++◌, length, get_or, set, take, replicate, Option, None, Some, inl, inr, ⊎_elim, arith}
use Rattle.std.specs.List.{AllPairs, Contains}
use Rattle.std.proofs.lemmas.Bool.{cases_eq, cases_lt}
use Rattle.std.proofs.lemmas.List.{get_or_past, get_or-replicate, get_or-set_other, get_or-set_same, get_or_append_left, get_or_default, get_or_push, length-replicate, length-set, length_push, take_more, take_all}
use Rattle.std.proofs.lemmas.List.Elements.{Contains-append_left, Contains-push, Contains-push_cases, Contains-get_or}
use Rattle.std.proofs.lemmas.Option.{none-some, same_Some}
use Rattle.bk_live.specs.declared.search.Start.{Start}
use Rattle.bk_live.specs.Edges.{IsEdge}
use Rattle.bk_live.specs.Search.{length_at, Found, from, onward, Marks, Moves, HasUpTo, Reaches, Spreading, more_listed}

-- a place has a distance only where it is there
pub has_within : (ls : List (Option ℕ)) (p d : ℕ) → get_or ls p None ≡ Some d → p < length ls
has_within ls p d e = ⊎_elim (λ (b : p < length ls). b) (λ a. absurd (none-some d (sym (get_or_past ls p None a) ∙ e))) (cases_lt p (length ls))

-- nothing moves
pub moves_not : (R : ℕ → ℕ → Type 0) (ls : List (Option ℕ)) (Q : ℕ → ℕ → Type 0) → Moves R ls Q ls Q
moves_not R ls Q = record { size = refl; lower = λ p d e. (d, e, omega arith); fresh = λ p d e. inl e; queued = λ p d q. q }

-- one move after another
pub moves_on : (R S V : ℕ → ℕ → Type 0) (ls ms ns : List (Option ℕ)) (P Q T : ℕ → ℕ → Type 0) → ((p d : ℕ) → R p d → V p d) → ((p d : ℕ) → S p d → V p d)
    → Moves R ls P ms Q → Moves S ms Q ns T → Moves V ls P ns T
moves_on R S V ls ms ns P Q T r s a b = record {
  size = b.size ∙ a.size;
  lower = λ p d e. let (f, g, l) = a.lower p d e in let (h, i, k) = b.lower p f g in (h, i, omega arith);
  fresh = λ p d e. ⊎_elim
      (λ f. ⊎_elim (λ g. inl g) (λ (q, x). inr (b.queued p d q, r p d x)) (a.fresh p d f))
      (λ (t, x). inr (t, s p d x))
      (b.fresh p d e);
  queued = λ p d q. b.queued p d (a.queued p d q);
}

-- what has a distance keeps one as small
pub still : (R : ℕ → ℕ → Type 0) (ls ms : List (Option ℕ)) (P Q : ℕ → ℕ → Type 0) → Moves R ls P ms Q → (p d : ℕ) → HasUpTo ls p d → HasUpTo ms p d
still R ls ms P Q m p d (e, f, l) = let (g, h, k) = m.lower p e f in (g, h, omega arith)

-- a place gets a smaller distance
pub moves_near : (ls : List (Option ℕ)) (P Q : ℕ → ℕ → Type 0) (place distance : ℕ) → place < length ls → ((b : ℕ) → get_or ls place None ≡ Some b → distance < b)
    → ((p d : ℕ) → P p d → Q p d) → Q place distance → Moves (λ p d. (p ≡ place) × (d ≡ distance)) ls P (set ls place (Some distance)) Q
moves_near ls P Q place distance within nearer keeps here = record {
  size = length-set ls place (Some distance);
  lower = λ p d e. ⊎_elim
      (λ (same : p ≡ place).
      let less : distance < d = nearer d (ap (λ k. get_or ls k None) (sym same) ∙ e) in
      (distance, at p same, omega arith))
      (λ (apart : p ≡ place → ⊥). (d, get_or-set_other ls place p (Some distance) None apart ∙ e, omega arith))
      (cases_eq p place);
  fresh = λ p d e. ⊎_elim
      (λ (same : p ≡ place).
      let is : distance ≡ d = same_Some distance d (sym (at p same) ∙ e) in
      inr (subst (λ (k : ℕ). Q k d) (sym same) (subst (λ (k : ℕ). Q place k) is here), (same, sym is)))
      (λ (apart : p ≡ place → ⊥). inl (sym (get_or-set_other ls place p (Some distance) None apart) ∙ e))
      (cases_eq p place);
  queued = keeps;
}
  where
    at : (p : ℕ) → p ≡ place → get_or (set ls place (Some distance)) p None ≡ Some distance
    at p same = ap (λ k. get_or (set ls place (Some distance)) k None) same ∙ get_or-set_same ls place (Some distance) None within

-- the places that are listed
pub marks_none : (n : ℕ) → Marks (replicate n None) []
marks_none n = record {
  listed = λ p. ((λ (k, l, e). absurd (omega arith)), (λ (d, e). absurd (none-some d (sym (nothing p) ∙ e))));
  apart = λ i j d l h. absurd (omega arith);
}
  where
    nothing : (p : ℕ) → get_or {A = Option ℕ} (replicate n None) p None ≡ None
    nothing p = ⊎_elim (λ (b : p < n). get_or-replicate n p None None b) (λ a. get_or_past (replicate n None) p None (rw length-replicate a)) (cases_lt p n)

pub apart_push : (xs : List ℕ) (x : ℕ) → ((p : ℕ) → Contains xs p → p ≢ x) → AllPairs (λ p q. p ≢ q) xs → AllPairs (λ p q. p ≢ q) (xs ++ x ∷ [])
apart_push xs x new apart i j d low high = ⊎_elim
    (λ (early : j < length xs).
    let a : get_or (xs ++ x ∷ []) i d ≡ get_or xs i d = get_or_append_left xs (x ∷ []) d i (omega arith) in
    let b : get_or (xs ++ x ∷ []) j d ≡ get_or xs j d = get_or_append_left xs (x ∷ []) d j early in
    λ same. apart i j d low early (sym a ∙ (same ∙ b)))
    (λ (late : length xs ≤ j).
    let last : j ≡ length xs = omega (arith, length_push xs x) in
    let front : i < length xs = omega arith in
    let a : get_or (xs ++ x ∷ []) i d ≡ get_or xs i d = get_or_append_left xs (x ∷ []) d i front in
    let b : get_or (xs ++ x ∷ []) j d ≡ x = get_or_push xs x d j (sym last) in
    λ same. new (get_or xs i d) (Contains-get_or xs i d front) (sym a ∙ (same ∙ b)))
    (cases_lt j (length xs))

pub marks_more : (ls : List (Option ℕ)) (xs : List ℕ) (place distance : ℕ) (o : Option ℕ) → get_or ls place None ≡ o → place < length ls → Marks ls xs
    → Marks (set ls place (Some distance)) (more_listed o xs place)
marks_more ls xs place distance (Some b) e within marks = record {
  listed = λ p. (
    (λ c. ⊎_elim (λ same. (distance, at p same)) (λ apart. let (d, f) = (marks.listed p).0 c in (d, other p apart ∙ f)) (cases_eq p place)),
    (λ (d, f). ⊎_elim
        (λ same. (marks.listed p).1 (b, ap (λ k. get_or ls k None) same ∙ e))
        (λ apart. (marks.listed p).1 (d, sym (other p apart) ∙ f))
        (cases_eq p place)),
  );
  apart = marks.apart;
}
  where
    at : (p : ℕ) → p ≡ place → get_or (set ls place (Some distance)) p None ≡ Some distance
    at p same = ap (λ k. get_or (set ls place (Some distance)) k None) same ∙ get_or-set_same ls place (Some distance) None within

    other : (p : ℕ) → (p ≡ place → ⊥) → get_or (set ls place (Some distance)) p None ≡ get_or ls p None
    other p apart = get_or-set_other ls place p (Some distance) None apart
marks_more ls xs place distance None e within marks = record {
  listed = λ p. (
    (λ c. ⊎_elim
        (λ same. (distance, at p same))
        (λ apart. ⊎_elim
        (λ old. let (d, f) = (marks.listed p).0 old in (d, other p apart ∙ f))
        (λ new. absurd (apart (sym new)))
        (Contains-push_cases xs place p c))
        (cases_eq p place)),
    (λ (d, f). ⊎_elim
        (λ same. subst (λ (k : ℕ). Contains (xs ++ place ∷ []) k) (sym same) (Contains-push xs place))
        (λ apart. Contains-append_left xs (place ∷ []) p ((marks.listed p).1 (d, sym (other p apart) ∙ f)))
        (cases_eq p place)),
  );
  apart = apart_push xs place (λ p c same. let (d, f) = (marks.listed p).0 c in none-some d (sym e ∙ (ap (λ k. get_or ls k None) (sym same) ∙ f))) marks.apart;
}
  where
    at : (p : ℕ) → p ≡ place → get_or (set ls place (Some distance)) p None ≡ Some distance
    at p same = ap (λ k. get_or (set ls place (Some distance)) k None) same ∙ get_or-set_same ls place (Some distance) None within

    other : (p : ℕ) → (p ≡ place → ⊥) → get_or (set ls place (Some distance)) p None ≡ get_or ls p None
    other p apart = get_or-set_other ls place p (Some distance) None apart

-- the places behind one are reached, up to the index
pub record LeftUpTo (ps : List ℕ) (ws : List ℕ) (avoided distance : ℕ) (ls : List (Option ℕ)) (P : ℕ → ℕ → Type 0) (i : ℕ) (ms : List (Option ℕ)) (Q : ℕ → ℕ → Type 0) : Type 0 where
  pub moves : Moves (λ q d. Contains (take i ps) q × Reaches ws avoided distance q d) ls P ms Q
  pub near : (q w : ℕ) → Contains (take i ps) q → q < length ls → length_at ws avoided q ≡ Some w → HasUpTo ms q (distance + w)

pub left_none : (ps : List ℕ) (ws : List ℕ) (avoided distance : ℕ) (ls : List (Option ℕ)) (P : ℕ → ℕ → Type 0) → LeftUpTo ps ws avoided distance ls P 0 ls P
left_none ps ws avoided distance ls P = record {
  moves = moves_not (λ q d. Contains (take 0 ps) q × Reaches ws avoided distance q d) ls P;
  near = λ q w (k, l, e) within at. absurd (omega arith);
}

pub left_more : (ps : List ℕ) (ws : List ℕ) (avoided distance : ℕ) (ls ms ns : List (Option ℕ)) (P Q T : ℕ → ℕ → Type 0) (i : ℕ) → i < length ps
    → LeftUpTo ps ws avoided distance ls P i ms Q
    → Moves (λ q d. (q ≡ get_or ps i 0) × Reaches ws avoided distance q d) ms Q ns T
    → ((w : ℕ) → get_or ps i 0 < length ms → length_at ws avoided (get_or ps i 0) ≡ Some w → HasUpTo ns (get_or ps i 0) (distance + w))
    → LeftUpTo ps ws avoided distance ls P (i + 1) ns T
left_more ps ws avoided distance ls ms ns P Q T i l a m near = record {
  moves = moves_on (λ q d. Contains (take i ps) q × Reaches ws avoided distance q d) (λ q d. (q ≡ get_or ps i 0) × Reaches ws avoided distance q d)
      (λ q d. Contains (take (i + 1) ps) q × Reaches ws avoided distance q d) ls ms ns P Q T
      (λ q d (c, r). (earlier q c, r)) (λ q d (same, r). (subst (λ (k : ℕ). Contains (take (i + 1) ps) k) (sym same) last, r)) a.moves m;
  near = λ q w c within at. ⊎_elim
      (λ old. still (λ q d. (q ≡ get_or ps i 0) × Reaches ws avoided distance q d) ms ns Q T m q (distance + w) (a.near q w old within at))
      (λ (same : get_or ps i 0 ≡ q).
      subst (λ (k : ℕ). HasUpTo ns k (distance + w)) same
      (near w (subst (λ (k : ℕ). k < length ms) (sym same) (omega (arith, a.moves.size))) (ap (length_at ws avoided) same ∙ at)))
      (Contains-push_cases (take i ps) (get_or ps i 0) q (subst (λ (us : List ℕ). Contains us q) (take_more ps i 0 l) c));
}
  where
    earlier : (q : ℕ) → Contains (take i ps) q → Contains (take (i + 1) ps) q
    earlier q c = subst (λ (us : List ℕ). Contains us q) (sym (take_more ps i 0 l)) (Contains-append_left (take i ps) (get_or ps i 0 ∷ []) q c)

    last : Contains (take (i + 1) ps) (get_or ps i 0)
    last = subst (λ (us : List ℕ). Contains us (get_or ps i 0)) (sym (take_more ps i 0 l)) (Contains-push (take i ps) (get_or ps i 0))

-- at the end
pub left_moves : (ps : List ℕ) (ws : List ℕ) (avoided distance : ℕ) (ls ms : List (Option ℕ)) (P Q : ℕ → ℕ → Type 0) (i : ℕ) → length ps ≤ i
    → LeftUpTo ps ws avoided distance ls P i ms Q → Moves (λ q d. Contains ps q × Reaches ws avoided distance q d) ls P ms Q
left_moves ps ws avoided distance ls ms P Q i over a =
    subst (λ (us : List ℕ). Moves (λ q d. Contains us q × Reaches ws avoided distance q d) ls P ms Q) (take_all i ps over) a.moves

pub left_near : (ps : List ℕ) (ws : List ℕ) (avoided distance : ℕ) (ls ms : List (Option ℕ)) (P Q : ℕ → ℕ → Type 0) (i : ℕ) → length ps ≤ i
    → LeftUpTo ps ws avoided distance ls P i ms Q → (q w : ℕ) → Contains ps q → q < length ls → length_at ws avoided q ≡ Some w → HasUpTo ms q (distance + w)
left_near ps ws avoided distance ls ms P Q i over a q w c =
    a.near q w (subst (λ (us : List ℕ). Contains us q) (sym (take_all i ps over)) c)

-- what a start gives
abbrev pub IsOf : List Start → ℕ → ℕ → Type 0
IsOf starts p d = (s : Start) × Contains starts s × (s.place ≡ p) × (s.distance ≡ d)

-- the first starts are reached
pub record Begun (starts : List Start) (i : ℕ) (ls : List (Option ℕ)) (P : ℕ → ℕ → Type 0) (ms : List (Option ℕ)) (Q : ℕ → ℕ → Type 0) : Type 0 where
  pub moves : Moves (IsOf starts) ls P ms Q
  pub near : (k : ℕ) (s : Start) → k < i → k < length starts → get_or starts k s ≡ s → s.place < length ls → HasUpTo ms s.place s.distance

pub begun_none : (starts : List Start) (ls : List (Option ℕ)) (P : ℕ → ℕ → Type 0) → Begun starts 0 ls P ls P
begun_none starts ls P = record { moves = moves_not (IsOf starts) ls P; near = λ k s l w e b. absurd (omega arith) }

pub begun_more : (starts : List Start) (i : ℕ) (ls ms ns : List (Option ℕ)) (P Q T : ℕ → ℕ → Type 0) (s : Start) → i < length starts → s ≡ get_or starts i s → Begun starts i ls P ms Q
    → Moves (λ p d. (p ≡ s.place) × (d ≡ s.distance)) ms Q ns T → (s.place < length ms → HasUpTo ns s.place s.distance) → Begun starts (i + 1) ls P ns T
begun_more starts i ls ms ns P Q T s l at b m near = record {
  moves = moves_on (IsOf starts) (λ p d. (p ≡ s.place) × (d ≡ s.distance)) (IsOf starts) ls ms ns P Q T (λ p d h. h) (λ p d (h, k). (s, (i, l, sym at), sym h, sym k)) b.moves m;
  near = λ k r low w e inside. ⊎_elim
      (λ (early : k < i). still (λ p d. (p ≡ s.place) × (d ≡ s.distance)) ms ns Q T m r.place r.distance (b.near k r early w e inside))
      (λ (late : i ≤ k).
      let last : k ≡ i = omega arith in
      let same : s ≡ r = at ∙ (get_or_default starts i s r l ∙ (ap (λ j. get_or starts j r) (sym last) ∙ e)) in
      subst (λ (x : Start). HasUpTo ns x.place x.distance) same (near (subst (λ (x : Start). x.place < length ms) (sym same) (omega (arith, b.moves.size)))))
      (cases_lt k i);
}

pub begun_near : (starts : List Start) (i : ℕ) (ls ms : List (Option ℕ)) (P Q : ℕ → ℕ → Type 0) → length starts ≤ i → Begun starts i ls P ms Q
    → (s : Start) → Contains starts s → s.place < length ls → HasUpTo ms s.place s.distance
begun_near starts i ls ms P Q over b s (k, l, e) inside = b.near k s (omega arith) l e inside

nothing : (n p : ℕ) → get_or {A = Option ℕ} (replicate n None) p None ≡ None
nothing n p = ⊎_elim (λ (b : p < n). get_or-replicate n p None None b) (λ a. get_or_past (replicate n None) p None (rw length-replicate a)) (cases_lt p n)

-- the steps begin
pub spreading_first : (es : List (List ℕ)) (ws : List ℕ) (avoided : ℕ) (starts : List Start) (ls ms : List (Option ℕ)) (xs : List ℕ) (P Q : ℕ → ℕ → Type 0)
    → ls ≡ replicate (length es) None → Marks ms xs → Moves (IsOf starts) ls P ms Q → ((s : Start) → Contains starts s → s.place < length ls → HasUpTo ms s.place s.distance)
    → Spreading es ws avoided starts ms xs Q
spreading_first es ws avoided starts ls ms xs P Q none marks m near = record {
  size = m.size ∙ long;
  marks = marks;
  sound = λ p d e.
      let (q, (s, c, h, k)) = new p d e in
      subst (λ (y : ℕ). Found es ws avoided starts p y) k
      (subst (λ (y : ℕ). Found es ws avoided starts y s.distance) h
      (from s c (subst (λ (y : ℕ). y < length es) (sym h) (let w : p < length ms = has_within ms p d e in omega (arith, m.size, long)))));
  begun = λ s c inside. near s c (omega (arith, long));
  settled = λ p d e. inl (new p d e).0;
}
  where
    long : length ls ≡ length es
    long = ap length none ∙ length-replicate (length es) None

    new : (p d : ℕ) → get_or ms p None ≡ Some d → Q p d × IsOf starts p d
    new p d e = ⊎_elim
        (λ old. absurd (none-some d (sym (nothing (length es) p) ∙ (ap (λ us. get_or us p None) (sym none) ∙ old))))
        (λ h. h)
        (m.fresh p d e)

-- a place is left that has its distance still
pub spreading_on : (es : List (List ℕ)) (ws : List ℕ) (avoided : ℕ) (starts : List Start) (ls ms : List (Option ℕ)) (xs ys : List ℕ) (P Q T : ℕ → ℕ → Type 0)
    (place distance : ℕ) → Spreading es ws avoided starts ls xs P → ((p d : ℕ) → P p d → ((p ≡ place) × (d ≡ distance)) ⊎ Q p d) → get_or ls place None ≡ Some distance
    → Marks ms ys → Moves (λ q d. IsEdge es place q × Reaches ws avoided distance q d) ls Q ms T
    → ((q w : ℕ) → IsEdge es place q → q < length ls → length_at ws avoided q ≡ Some w → HasUpTo ms q (distance + w)) → Spreading es ws avoided starts ms ys T
spreading_on es ws avoided starts ls ms xs ys P Q T place distance s pop here marks m near = record {
  size = m.size ∙ s.size;
  marks = marks;
  sound = λ p d e. ⊎_elim
      (λ old. s.sound p d old)
      (λ (t, (edge, (w, at, sum))).
      subst (λ (y : ℕ). Found es ws avoided starts p y) (sym sum)
      (onward place p distance w (s.sound place distance here) edge (let b : p < length ms = has_within ms p d e in omega (arith, m.size, s.size)) at))
      (m.fresh p d e);
  begun = λ x c inside. still (λ q d. IsEdge es place q × Reaches ws avoided distance q d) ls ms Q T m x.place x.distance (s.begun x c inside);
  settled = λ p d e. ⊎_elim
      (λ old. ⊎_elim
      (λ q. ⊎_elim
      (λ (a, b). inr (λ r w edge inside at.
      subst (λ (y : ℕ). HasUpTo ms r (y + w)) (sym b) (near r w (subst (λ (y : ℕ). IsEdge es y r) a edge) (omega (arith, s.size)) at)))
      (λ kept. inl (m.queued p d kept))
      (pop p d q))
      (λ left. inr (λ r w edge inside at. still (λ q d. IsEdge es place q × Reaches ws avoided distance q d) ls ms Q T m r (d + w) (left r w edge inside at)))
      (s.settled p d old))
      (λ (t, x). inl t)
      (m.fresh p d e);
}

-- one that has a smaller distance by now
pub spreading_by : (es : List (List ℕ)) (ws : List ℕ) (avoided : ℕ) (starts : List Start) (ls : List (Option ℕ)) (xs : List ℕ) (P Q : ℕ → ℕ → Type 0)
    (place distance : ℕ) → Spreading es ws avoided starts ls xs P → ((p d : ℕ) → P p d → ((p ≡ place) × (d ≡ distance)) ⊎ Q p d) → (get_or ls place None ≡ Some distance → ⊥)
    → Spreading es ws avoided starts ls xs Q
spreading_by es ws avoided starts ls xs P Q place distance s pop gone = record {
  size = s.size;
  marks = s.marks;
  sound = s.sound;
  begun = s.begun;
  settled = λ p d e. ⊎_elim
      (λ q. ⊎_elim
      (λ (a, b). absurd (gone (ap (λ k. get_or ls k None) (sym a) ∙ (e ∙ ap Some b))))
      (λ kept. inl kept)
      (pop p d q))
      (λ left. inr left)
      (s.settled p d e);
}

-- the queue, said otherwise
pub spreading_as : (es : List (List ℕ)) (ws : List ℕ) (avoided : ℕ) (starts : List Start) (ls : List (Option ℕ)) (xs : List ℕ) (P Q : ℕ → ℕ → Type 0) → ((p d : ℕ) → P p d → Q p d)
    → Spreading es ws avoided starts ls xs P → Spreading es ws avoided starts ls xs Q
spreading_as es ws avoided starts ls xs P Q as_q s = record {
  size = s.size;
  marks = s.marks;
  sound = s.sound;
  begun = s.begun;
  settled = λ p d e. ⊎_elim (λ waits. inl (as_q p d waits)) (λ left. inr left) (s.settled p d e);
}

-- once no place is left
pub spread_least : (es : List (List ℕ)) (ws : List ℕ) (avoided : ℕ) (starts : List Start) (ls : List (Option ℕ)) (xs : List ℕ) (P : ℕ → ℕ → Type 0)
    → Spreading es ws avoided starts ls xs P → ((p d : ℕ) → ¬ P p d) → (p d : ℕ) → Found es ws avoided starts p d → HasUpTo ls p d
spread_least es ws avoided starts ls xs P s none _ _ (from x c inside) = s.begun x c inside
spread_least es ws avoided starts ls xs P s none _ _ (onward p q d w found edge inside at) =
    let (e, f, l) = spread_least es ws avoided starts ls xs P s none p d found in
    ⊎_elim
    (λ queued. absurd (none p e queued))
    (λ left. let (g, h, k) = left q w edge inside at in (g, h, omega arith))
    (s.settled p e f)

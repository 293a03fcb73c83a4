-- The words of the closed cells are the keys of the functions' code.
use Rattle.std.proofs.Common.{◌≡◌, ◌≢◌, ⊎_elim, ℕ, zero, suc, ◌<◌, List, [], ◌∷◌, length, map, get_or, refl, sym, ap, ◌∙◌, subst, arith, Some}
use Rattle.std.specs.Prelude.{slice_get}
use Rattle.std.specs.List.{Contains, flat_map}
use Rattle.std.proofs.lemmas.List.{get_or_default}
use Rattle.std.proofs.lemmas.Option.{slice_get_within}
use Rattle.bk_core.specs.Rule.{cells_of, keys_of}
use Rattle.bk_core.specs.Events.{CoreState, MeetsRule, word_at}
use Rattle.bk_fixup.specs.Keys as fixup
use Rattle.bk_func.specs.Records.{FuncRecord, PackageRecord}
use Rattle.bk_ops.specs.declared.types.Target.{Target}
use Rattle.bk_piece.specs.declared.Key.{Key}
use Rattle.bk_piece.specs.Filled.{area, key_at}
use Rattle.bk_piece.specs.Pieces.{PieceRecord}
use Rattle.bk_piece.specs.Rising.{Rise, full, keys_in}
use Rattle.bk_piece.proofs.Elements.{has_cases, has_here, has_none, has_there}
use Rattle.bk_piece.proofs.Full.{from_full, has_full}
use Rattle.bk_piece.proofs.Rising.{from_rising, in_rising, same_rising}
use Rattle.bk_work.specs.Each.{Each, none, more}
use Rattle.bk_work.specs.Framed.{FramedRecord}
use Rattle.bk_work.specs.Package.{IsCode, distinct_in, in_area, words_of}
use Rattle.bk_work.specs.Rounds.{Entry, IsAt, IsEntryAt, announced_by, area_keys}
use Rattle.bk_work.specs.Rules.{RulesRecord}
use Rattle.bk_work.proofs.Announcing.{from_flat, from_key, has_flat, has_key}
use Rattle.bk_work.proofs.Moving.{has_word}

abbrev pub keys_by : List FramedRecord → List (List Key)
keys_by its = map (λ (it : FramedRecord). fixup.keys_of it.func) its

-- what stands beside an element
beside : {A B : Type 0} (R : A → B → Type 0) (xs : List A) (ys : List B) (y : B) → Each R xs ys → Contains ys y → (j : ℕ) × (x : A) × (slice_get xs j ≡ Some x) × (slice_get ys j ≡ Some y) × R x y
beside R _ _ y none h = absurd (has_none y h)
beside {A} {B} R _ _ y (more a b xs ys r rest) h = ⊎_elim
    (λ (same : b ≡ y). (0, a, refl, ap (λ (z : B). Some z) same, subst (λ (z : B). R a z) same r))
    (λ there. let i = beside R xs ys y rest there in (suc i.0, i.1, i.2, i.3, i.4))
    (has_cases b ys y h)

before : {A B : Type 0} (R : A → B → Type 0) (xs : List A) (ys : List B) (x : A) → Each R xs ys → Contains xs x → (y : B) × R x y
before R _ _ x none h = absurd (has_none x h)
before {A} {B} R _ _ x (more a b xs ys r rest) h = ⊎_elim (λ (same : a ≡ x). (b, subst (λ (z : A). R z b) same r)) (λ there. before R xs ys x rest there) (has_cases a xs x h)

mapped : {A B : Type 0} (f : A → B) (xs : List A) (x : A) → Contains xs x → Contains (map f xs) (f x)
mapped f [] x h = absurd (has_none x h)
mapped {A} {B} f (z ∷ xs) x h = ⊎_elim
    (λ (same : z ≡ x). subst (λ (y : B). Contains (y ∷ map f xs) (f x)) (sym (ap f same)) (has_here (f x) (map f xs)))
    (λ rest. has_there (f z) (map f xs) (f x) (mapped f xs x rest))
    (has_cases z xs x h)

from_map : {A B : Type 0} (f : A → B) (xs : List A) (y : B) → Contains (map f xs) y → (x : A) × Contains xs x × (f x ≡ y)
from_map f [] y h = absurd (has_none y h)
from_map f (z ∷ xs) y h = ⊎_elim
    (λ (same : f z ≡ y). (z, has_here z xs, same))
    (λ rest. let i = from_map f xs y rest in (i.0, has_there z xs i.0 i.1, i.2))
    (has_cases (f z) (map f xs) y h)

-- a number has one place among rising ones
one_place : (xs : List ℕ) (i j x : ℕ) → Rise xs → slice_get xs i ≡ Some x → slice_get xs j ≡ Some x → i ≡ j
one_place xs i j x rise e d = by xs i j rise e d
  where
    low : (y : ℕ) (ys : List ℕ) (k : ℕ) → Rise (y ∷ ys) → slice_get ys k ≡ Some x → y < x
    low y ys k r at =
        let lt : k < length ys = slice_get_within ys k x at in
        let is : get_or ys k 0 ≡ x = get_or_from ys k at in
        subst (λ n. y < n) is (r 0 (suc k) 0 (omega arith) (omega (arith, lt)))
      where
        get_or_from : (zs : List ℕ) (m : ℕ) → slice_get zs m ≡ Some x → get_or zs m 0 ≡ x
        get_or_from [] m e = absurd cc
        get_or_from (z ∷ zs) zero e = cc
        get_or_from (z ∷ zs) (suc m) e = get_or_from zs m e

    by : (ys : List ℕ) (i j : ℕ) → Rise ys → slice_get ys i ≡ Some x → slice_get ys j ≡ Some x → i ≡ j
    by [] i j r e d = absurd cc
    by (y ∷ ys) zero zero r e d = refl
    by (y ∷ ys) zero (suc j) r e d = let same : y ≡ x = cc in let l = low y ys j r d in absurd (omega (arith, same, l))
    by (y ∷ ys) (suc i) zero r e d = let same : y ≡ x = cc in let l = low y ys i r e in absurd (omega (arith, same, l))
    by (y ∷ ys) (suc i) (suc j) r e d = ap suc (by ys i j (λ a b c l w. r (suc a) (suc b) c (omega (arith, l)) (omega (arith, w))) e d)

-- what a round's whole work gives
pub record IsGathered (pkg : PackageRecord) (t : Target) (rules : RulesRecord) (words : List (List ℕ)) (places : List ℕ) (es : List Entry) (its : List FramedRecord) (ps : List PieceRecord) : Type 0 where
  pub rise : Rise places
  pub entries : Each (IsEntryAt pkg t rules) places es
  pub code : Each (IsCode t words) its ps
  pub all : (f : ℕ) (g : FuncRecord) → slice_get pkg.funcs f ≡ Some g → (it : FramedRecord) × Contains its it × ((e : Entry) × IsAt places es f e × (fixup.keys_of it.func ≡ e.1.items))

-- a word that a cell holds is a key of some code
sound : (pkg : PackageRecord) (t : Target) (rules : RulesRecord) (words : List (List ℕ)) (places : List ℕ) (es : List Entry) (its : List FramedRecord) (ps : List PieceRecord) (a q : ℕ)
    → IsGathered pkg t rules words places es its ps → Contains (area_keys a es) q → Contains (flat_map (in_area a) (keys_by its)) q
sound pkg t rules words places es its ps a q g h =
    let e = from_flat (λ (r : Entry). in_area a r.1.items) es q h in
    let k = from_key a e.0.1.items q e.2 in
    let at = beside (IsEntryAt pkg t rules) places es e.0 g.entries e.1 in
    let j = at.0 in let f = at.1 in
    let one = g.all f at.4.func at.4.there in
    let it = one.0 in
    let whose = one.2.0 in
    let other = one.2.1 in
    let same : other.0 ≡ j = one_place places other.0 j f g.rise other.1 at.2 in
    let also : slice_get es j ≡ Some whose = subst (λ (n : ℕ). slice_get es n ≡ Some whose) same other.2 in
    let entry : whose ≡ e.0 = same_some (sym also ∙ at.3) in
    let keys : fixup.keys_of it.func ≡ e.0.1.items = one.2.2 ∙ ap (λ (r : Entry). r.1.items) entry in
    let here : Contains (fixup.keys_of it.func) k.0 = subst (λ (ks : List Key). Contains ks k.0) (sym keys) k.1 in
    has_flat (in_area a) (keys_by its) (fixup.keys_of it.func) q (mapped (λ (x : FramedRecord). fixup.keys_of x.func) its it one.1)
    (subst (λ (n : ℕ). Contains (in_area a (fixup.keys_of it.func)) n) k.3 (has_key a (fixup.keys_of it.func) k.0 here k.2))
  where
    same_some : {x y : Entry} → Some x ≡ Some y → x ≡ y
    same_some {x} {y} e = cc

announced_at : (es : List Entry) (a q : ℕ) → a < 3 → Contains (keys_of (announced_by es) a) q → Contains (area_keys a es) q
announced_at es zero q lt h = h
announced_at es (suc zero) q lt h = h
announced_at es (suc (suc zero)) q lt h = h
announced_at es (suc (suc (suc a))) q lt h = absurd (omega (arith, lt))

in_cell : (words : List (List ℕ)) (es : List Entry) (parts a q : ℕ) (m : CoreState) → MeetsRule (announced_by es) parts m → m.areas ≡ words → a < 3 → Contains (area words a) q → q ≢ 0 → Contains (area_keys a es) q
in_cell words es parts a q m rule is lt h ne =
    let here : Contains (get_or m.areas a []) q = subst (λ (ws : List (List ℕ)). Contains (get_or ws a []) q) (sym is) h in
    let c = here.0 in
    let size = rule.sizes a lt in
    let l = here.1 in
    let less : c < cells_of (announced_by es) a = omega (arith, size, l) in
    let word : word_at m.areas a c ≡ q = get_or_default (get_or m.areas a []) c 0 q here.1 ∙ here.2 in
    let p = (rule.rule.filled a lt).held c less (λ z. ne (sym word ∙ z)) in
    announced_at es a q lt (subst (λ (w : ℕ). Contains (keys_of (announced_by es) a) w) word p.announced)

-- a key of some code is a word that a cell holds
whole : (pkg : PackageRecord) (t : Target) (rules : RulesRecord) (words : List (List ℕ)) (places : List ℕ) (es : List Entry) (its : List FramedRecord) (ps : List PieceRecord) (a q : ℕ)
    → IsGathered pkg t rules words places es its ps → q ≢ 0 → Contains (flat_map (in_area a) (keys_by its)) q → Contains (area words a) q
whole pkg t rules words places es its ps a q g ne h =
    let ks = from_flat (in_area a) (keys_by its) q h in
    let k = from_key a ks.0 q ks.2 in
    let it = from_map (λ (x : FramedRecord). fixup.keys_of x.func) its ks.0 ks.1 in
    let code = before (IsCode t words) its ps it.0 g.code it.1 in
    let listed : map (key_at words) code.1.handles ≡ ks.0 = code.1.keys ∙ it.2 in
    let hs = from_map (key_at words) code.1.handles k.0 (subst (λ (l : List Key). Contains l k.0) (sym listed) k.1) in
    let at : hs.0.area ≡ a = ap (λ (x : Key). x.area) hs.2 ∙ k.2 in
    let word : get_or (area words hs.0.area) hs.0.cell 0 ≡ q = ap (λ (x : Key). x.key) hs.2 ∙ k.3 in
    has_word (area words a) hs.0.cell q ne (subst (λ (n : ℕ). get_or (area words n) hs.0.cell 0 ≡ q) at word)

pub same_keys : (pkg : PackageRecord) (t : Target) (rules : RulesRecord) (words : List (List ℕ)) (places : List ℕ) (es : List Entry) (its : List FramedRecord) (ps : List PieceRecord) (parts : ℕ) (m : CoreState) (a : ℕ)
    → IsGathered pkg t rules words places es its ps → MeetsRule (announced_by es) parts m → m.areas ≡ words → a < 3 → keys_in (area words a) ≡ keys_in (distinct_in a (keys_by its))
same_keys pkg t rules words places es its ps parts m a g rule is lt =
    same_rising (full (area words a)) (full (distinct_in a (keys_by its)))
    (λ q h.
    let f = from_full (area words a) q h in
    has_full (distinct_in a (keys_by its)) q f.0
    (in_rising (flat_map (in_area a) (keys_by its)) q (sound pkg t rules words places es its ps a q g (in_cell words es parts a q m rule is lt f.1 f.0))))
    (λ q h.
    let f = from_full (distinct_in a (keys_by its)) q h in
    has_full (area words a) q f.0 (whole pkg t rules words places es its ps a q g f.0 (from_rising (flat_map (in_area a) (keys_by its)) q f.1)))

three : (words : List (List ℕ)) → length words ≡ 3 → words ≡ area words 0 ∷ area words 1 ∷ area words 2 ∷ []
three [] e = absurd (omega (arith, e))
three (x ∷ []) e = absurd (omega (arith, e))
three (x ∷ (y ∷ [])) e = absurd (omega (arith, e))
three (x ∷ (y ∷ (z ∷ []))) e = refl
three (x ∷ (y ∷ (z ∷ (w ∷ ws)))) e = absurd (omega (arith, e))

-- the areas hold the same keys as the serial ones
pub all_keys : (pkg : PackageRecord) (t : Target) (rules : RulesRecord) (words : List (List ℕ)) (places : List ℕ) (es : List Entry) (its : List FramedRecord) (ps : List PieceRecord) (parts : ℕ) (m : CoreState)
    → IsGathered pkg t rules words places es its ps → MeetsRule (announced_by es) parts m → m.areas ≡ words → length words ≡ 3 → map keys_in words ≡ map keys_in (words_of (keys_by its))
all_keys pkg t rules words places es its ps parts m g rule is long =
    let same : (a : ℕ) → a < 3 → keys_in (area words a) ≡ keys_in (distinct_in a (keys_by its)) = λ a lt. same_keys pkg t rules words places es its ps parts m a g rule is lt in
    let zero_is = same 0 (omega arith) in let one_is = same 1 (omega arith) in let two_is = same 2 (omega arith) in
    ap (map keys_in) (three words long)
    ∙ (ap (λ (k : List ℕ). k ∷ keys_in (area words 1) ∷ keys_in (area words 2) ∷ []) zero_is
    ∙ (ap (λ (k : List ℕ). keys_in (distinct_in 0 (keys_by its)) ∷ k ∷ keys_in (area words 2) ∷ []) one_is
    ∙ ap (λ (k : List ℕ). keys_in (distinct_in 0 (keys_by its)) ∷ keys_in (distinct_in 1 (keys_by its)) ∷ k ∷ []) two_is))

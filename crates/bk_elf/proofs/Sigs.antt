-- Signatures and the words that spell them.
use Rattle.std.proofs.Common.{◌≡◌, ◌≢◌, ℕ, zero, suc, ◌+◌, ◌<◌, ◌≤◌, ◌==◌, Bool, true, ◌&&◌, nat_lt, nat_le, List, [], ◌∷◌, ◌++◌, length, take, drop, map, find, slice_get, slice_index_or, Option, Some, None, option_map, inl, inr, refl, sym, ap, ◌∙◌, arith}
use Rattle.std.proofs.lemmas.Bool.{and_parts, cases_Bool, ltb-true, lt-ltb, leb-true, le-leb, eqb-true, eq-eqb, ne_eqb}
use Rattle.std.proofs.lemmas.List.{length-append, length-map, append_assoc, take_at, drop_at, drop-drop, take-append-drop, length-drop, length-take-le}
use Rattle.std.proofs.lemmas.List.Elements.{recursion_from_All, All-from_recursion}
use Rattle.std.specs.List.{AllByRecursion, Contains, list_all, flat_map, position_or_len}
use Rattle.std.specs.Option.{IsSomeAnd}
use Rattle.bk_ops.specs.declared.types.Ty.{Ty}
use Rattle.bk_ops.specs.declared.types.Ty.TheVariants as ty
use Rattle.bk_ops.specs.Types.{code_of}
use Rattle.bk_func.specs.Records.{SigRecord}
use Rattle.bk_elf.specs.Lists.{rises_from, option_cons, ◌>>=◌}
use Rattle.bk_elf.specs.Object.{are_codes, IsCoded, IsSig}
use Rattle.bk_elf.specs.Contents.{place_of_code, place_of_type, sig_words, gosig_words}
use Rattle.bk_elf.specs.Loading.{has_code, coded_types, type_of_code, type_in, types_at, signed, sig_in, sigs_in, gosig_in}

has_code_is : (o : Option ℕ) (code : ℕ) → has_code o code ≡ true → o ≡ Some code
has_code_is None code h = cc
has_code_is (Some c) code h = ap Some (sym (eqb-true code c h))

find_passes : {X : Type 0} (p : X → Bool) (xs : List X) (x : X) → find p xs ≡ Some x → p x ≡ true
find_passes p [] x h = cc
find_passes p (y ∷ ys) x h = elim (cases_Bool (p y)) [
  | inl holds ↦ let k = rw holds at h in let e : y ≡ x = cc in rw (← e) holds
  | inr fails ↦ find_passes p ys x (rw fails at h)
]

-- the type with a code has it
code_back : (code : ℕ) (t : Ty) → type_of_code code ≡ Some t → code_of t ≡ Some code
code_back code t h = has_code_is (code_of t) code (find_passes (λ x. has_code (code_of x) code) coded_types t h)

-- and a code's type is found
code_forth : (code : ℕ) (t : Ty) → code_of t ≡ Some code → type_of_code code ≡ Some t
code_forth code ty.Bool h = let e : code ≡ 1 = cc in rw e refl
code_forth code ty.Int8 h = let e : code ≡ 2 = cc in rw e refl
code_forth code ty.Uint8 h = let e : code ≡ 3 = cc in rw e refl
code_forth code ty.Int16 h = let e : code ≡ 4 = cc in rw e refl
code_forth code ty.Uint16 h = let e : code ≡ 5 = cc in rw e refl
code_forth code ty.Int32 h = let e : code ≡ 6 = cc in rw e refl
code_forth code ty.Uint32 h = let e : code ≡ 7 = cc in rw e refl
code_forth code ty.Int64 h = let e : code ≡ 8 = cc in rw e refl
code_forth code ty.Uint64 h = let e : code ≡ 9 = cc in rw e refl
code_forth code ty.Int h = let e : code ≡ 10 = cc in rw e refl
code_forth code ty.Uint h = let e : code ≡ 11 = cc in rw e refl
code_forth code ty.Uintptr h = let e : code ≡ 12 = cc in rw e refl
code_forth code ty.Ptr h = let e : code ≡ 13 = cc in rw e refl
code_forth code ty.Mem h = cc
code_forth code ty.Void h = cc
code_forth code ty.Tuple h = cc

-- what stands in a rising list is above what it rises from
above : (low : ℕ) (codes : List ℕ) (p code : ℕ) → rises_from low codes ≡ true → slice_get codes p ≡ Some code → low < code
above low [] p code up is = cc
above low (c ∷ codes) zero code up is =
    let parts = and_parts (nat_lt low c) (rises_from c codes) up in
    let first = ltb-true low c parts.0 in
    let e : c ≡ code = cc in
    omega arith
above low (c ∷ codes) (suc p) code up is =
    let parts = and_parts (nat_lt low c) (rises_from c codes) up in
    let first = ltb-true low c parts.0 in
    let rest = above c codes p code parts.1 is in
    omega arith

-- a code of a rising list is found at its place
place_is : (low : ℕ) (codes : List ℕ) (p code : ℕ) → rises_from low codes ≡ true → slice_get codes p ≡ Some code → position_or_len (λ c. c == code) codes ≡ p
place_is low [] p code up is = cc
place_is low (c ∷ codes) zero code up is = let e : c ≡ code = cc in rw (eq-eqb c code e) refl
place_is low (c ∷ codes) (suc p) code up is =
    let parts = and_parts (nat_lt low c) (rises_from c codes) up in
    let high = above c codes p code parts.1 is in
    let other : c ≢ code = omega arith in
    let rest = place_is c codes p code parts.1 is in
    rw (ne_eqb c code other) (omega arith)

get_within : (codes : List ℕ) (p code : ℕ) → slice_get codes p ≡ Some code → p < length codes
get_within [] p code is = cc
get_within (c ∷ codes) zero code is = omega arith
get_within (c ∷ codes) (suc p) code is = let h = get_within codes p code is in omega arith

get_at : (codes : List ℕ) (p code : ℕ) → p < length codes → slice_index_or codes p code ≡ code → slice_get codes p ≡ Some code
get_at [] p code lt is = absurd (omega arith)
get_at (c ∷ codes) zero code lt is = ap Some is
get_at (c ∷ codes) (suc p) code lt is = get_at codes p code (omega arith) is

pub get_or_of : (codes : List ℕ) (p code : ℕ) → slice_get codes p ≡ Some code → slice_index_or codes p code ≡ code
get_or_of [] p code is = cc
get_or_of (c ∷ codes) zero code is = cc
get_or_of (c ∷ codes) (suc p) code is = get_or_of codes p code is

pub place_there : (codes : List ℕ) (p code : ℕ) → rises_from 0 codes ≡ true → slice_get codes p ≡ Some code → place_of_code codes (Some code) ≡ p
place_there codes p code up is =
    let place = place_is 0 codes p code up is in
    rw (place, lt-ltb p (length codes) (get_within codes p code is)) refl

type_back_at : (codes : List ℕ) (p : ℕ) (t : Ty) (o : Option ℕ) → rises_from 0 codes ≡ true → slice_get codes p ≡ o → (o >>= type_of_code) ≡ Some t
    → IsCoded codes t × (place_of_type codes t ≡ p)
type_back_at codes p t None up get is = cc
type_back_at codes p t (Some code) up get is =
    let e = code_back code t is in (
      rw e (p, get_within codes p code get, get_or_of codes p code get),
      rw e (place_there codes p code up get),
    )

type_forth_at : (codes : List ℕ) (t : Ty) (o : Option ℕ) → code_of t ≡ o → rises_from 0 codes ≡ true → IsSomeAnd o (Contains codes) → type_in codes (place_of_code codes o) ≡ Some t
type_forth_at codes t None e up coded = absurd coded
type_forth_at codes t (Some code) e up coded =
    let get = get_at codes coded.0 code coded.1 coded.2 in
    rw (place_there codes coded.0 code up get, get) (code_forth code t e)

-- a type that is read has a code, whose place is read
type_back : (codes : List ℕ) (p : ℕ) (t : Ty) → rises_from 0 codes ≡ true → type_in codes p ≡ Some t → IsCoded codes t × (place_of_type codes t ≡ p)
type_back codes p t up is = type_back_at codes p t (slice_get codes p) up refl is

type_forth : (codes : List ℕ) (t : Ty) → rises_from 0 codes ≡ true → IsCoded codes t → type_in codes (place_of_type codes t) ≡ Some t
type_forth codes t up coded = type_forth_at codes t (code_of t) refl up coded

types_back_cons : (codes : List ℕ) (p : ℕ) (places : List ℕ) (ts : List Ty) (one : Option Ty) (more : Option (List Ty)) → rises_from 0 codes ≡ true
    → type_in codes p ≡ one → ((us : List Ty) → more ≡ Some us → AllByRecursion (IsCoded codes) us × (map (place_of_type codes) us ≡ places))
    → option_cons one more ≡ Some ts → AllByRecursion (IsCoded codes) ts × (map (place_of_type codes) ts ≡ p ∷ places)
types_back_cons codes p places ts None more up a ih is = cc
types_back_cons codes p places ts (Some t) None up a ih is = cc
types_back_cons codes p places ts (Some t) (Some us) up a ih is =
    let e : t ∷ us ≡ ts = cc in
    let first = type_back codes p t up a in
    let rest = ih us refl in
    rw (← e) ((first.0, rest.0), rw (first.1, rest.1) refl)

-- the types that are read have codes, whose places are read
types_back : (codes places : List ℕ) (ts : List Ty) → rises_from 0 codes ≡ true → types_at codes places ≡ Some ts
    → AllByRecursion (IsCoded codes) ts × (map (place_of_type codes) ts ≡ places)
unfolding types_at
types_back codes [] ts up is = let e : [] ≡ ts = cc in rw (← e) (tt, refl)
types_back codes (p ∷ places) ts up is = types_back_cons codes p places ts (type_in codes p) (types_at codes places) up refl (λ us h. types_back codes places us up h) is

types_forth : (codes : List ℕ) (ts : List Ty) → rises_from 0 codes ≡ true → AllByRecursion (IsCoded codes) ts → types_at codes (map (place_of_type codes) ts) ≡ Some ts
unfolding types_at
types_forth codes [] up coded = refl
types_forth codes (t ∷ ts) up coded = rw (type_forth codes t up coded.0, types_forth codes ts up coded.1) refl

-- what `signed` gives is a signature and the words that were left
signed_back : (args results : Option (List Ty)) (left : List ℕ) (s : SigRecord) (rest : List ℕ) (P : Type 0) → signed left args results ≡ Some (s, rest)
    → ((xs ys : List Ty) → args ≡ Some xs → results ≡ Some ys → record { args = xs; results = ys } ≡ s → left ≡ rest → P) → P
signed_back None results left s rest P h go = cc
signed_back (Some xs) None left s rest P h go = cc
signed_back (Some xs) (Some ys) left s rest P h go =
    let e : (record { args = xs; results = ys }, left) ≡ (s, rest) = cc in
    go xs ys refl refl (ap (λ (p : SigRecord × List ℕ). p.0) e) (ap (λ (p : SigRecord × List ℕ). p.1) e)

sig_parts : (codes : List ℕ) (a r : ℕ) (us rest : List ℕ) (s : SigRecord) (xs ys : List Ty) → rises_from 0 codes ≡ true → a + r ≤ 64 → a + r ≤ length us
    → types_at codes (take a us) ≡ Some xs → types_at codes (take r (drop a us)) ≡ Some ys → record { args = xs; results = ys } ≡ s → drop (a + r) us ≡ rest
    → IsSig codes s × (a ∷ r ∷ us ≡ sig_words codes s ++ rest)
unfolding sig_words
sig_parts codes a r us rest s xs ys up few room ha hr is left =
    let fa = types_back codes (take a us) xs up ha in
    let fr = types_back codes (take r (drop a us)) ys up hr in
    let la : length xs ≡ a = sym (length-map xs (place_of_type codes)) ∙ ap length fa.1 ∙ length-take-le a us (omega arith) in
    let lr : length ys ≡ r = sym (length-map ys (place_of_type codes)) ∙ ap length fr.1 ∙ length-take-le r (drop a us) (omega (arith, length-drop a us)) in
    let back = take-append-drop a us in
    let more = take-append-drop r (drop a us) in
    let far : drop r (drop a us) ≡ rest = drop-drop r a us ∙ left in
    rw (← is) (
      record {
        few = omega arith;
        args = All-from_recursion (IsCoded codes) xs fa.0;
        results = All-from_recursion (IsCoded codes) ys fr.0;
      },
      rw (la, lr, fa.1, fr.1, append_assoc (take a us) (take r (drop a us)) rest, ← far, more, back) refl,
    )

-- a signature that is read is spelled by the words
sig_back : (codes ws : List ℕ) (s : SigRecord) (rest : List ℕ) → rises_from 0 codes ≡ true → sig_in codes ws ≡ Some (s, rest)
    → IsSig codes s × (ws ≡ sig_words codes s ++ rest)
unfolding sig_in
sig_back codes [] s rest up h = cc
sig_back codes (a ∷ []) s rest up h = cc
sig_back codes (a ∷ r ∷ us) s rest up h = elim (cases_Bool (nat_le (a + r) 64 && nat_le (a + r) (length us))) [
  | inl holds ↦
      let parts = and_parts (nat_le (a + r) 64) (nat_le (a + r) (length us)) holds in
      let few = leb-true (a + r) 64 parts.0 in
      let room = leb-true (a + r) (length us) parts.1 in
      signed_back (types_at codes (take a us)) (types_at codes (take r (drop a us))) (drop (a + r) us) s rest (IsSig codes s × (a ∷ r ∷ us ≡ sig_words codes s ++ rest))
      (rw holds at h) (λ xs ys ha hr is left. sig_parts codes a r us rest s xs ys up few room ha hr is left)
  | inr fails ↦ let k = rw fails at h in cc
]

-- a signature is read from its words
sig_forth : (codes : List ℕ) (s : SigRecord) (rest : List ℕ) → rises_from 0 codes ≡ true → IsSig codes s → sig_in codes (sig_words codes s ++ rest) ≡ Some (s, rest)
unfolding sig_in sig_words
sig_forth codes s rest up h =
    let A = map (place_of_type codes) s.args in
    let R = map (place_of_type codes) s.results in
    let la = length-map s.args (place_of_type codes) in
    let lr = length-map s.results (place_of_type codes) in
    let few = le-leb (length s.args + length s.results) 64 h.few in
    let flat = append_assoc A R rest in
    let size = length-append A (R ++ rest) in
    let size' = length-append R rest in
    let room : nat_le (length s.args + length s.results) (length (A ++ (R ++ rest))) ≡ true =
    le-leb (length s.args + length s.results) (length (A ++ (R ++ rest))) (omega arith) in
    let ta = take_at A (R ++ rest) (length s.args) la in
    let da = drop_at A (R ++ rest) (length s.args) la in
    let tr = take_at R rest (length s.results) lr in
    let all : drop (length s.args + length s.results) (A ++ (R ++ rest)) ≡ rest =
    sym (drop-drop (length s.results) (length s.args) (A ++ (R ++ rest))) ∙ ap (drop (length s.results)) da ∙ drop_at R rest (length s.results) lr in
    let args = types_forth codes s.args up (recursion_from_All (IsCoded codes) s.args h.args) in
    let results = types_forth codes s.results up (recursion_from_All (IsCoded codes) s.results h.results) in
    rw (flat, few, room, ta, da, tr, all, args, results) refl

sigs_more : (codes : List ℕ) (n : ℕ) (ws : List ℕ) (x : SigRecord × List ℕ) (more : Option (List SigRecord)) (sigs : List SigRecord) → rises_from 0 codes ≡ true
    → sig_in codes ws ≡ Some x
    → ((later : List SigRecord) → more ≡ Some later → AllByRecursion (IsSig codes) later × (x.1 ≡ flat_map (sig_words codes) later) × (length later ≡ n))
    → option_cons (Some x.0) more ≡ Some sigs → AllByRecursion (IsSig codes) sigs × (ws ≡ flat_map (sig_words codes) sigs) × (length sigs ≡ suc n)
sigs_more codes n ws x None sigs up one ih is = cc
sigs_more codes n ws x (Some later) sigs up one ih is =
    let e : x.0 ∷ later ≡ sigs = cc in
    let first = sig_back codes ws x.0 x.1 up one in
    let rest = ih later refl in
    rw (← e) ((first.0, rest.0), first.1 ∙ ap (λ xs. sig_words codes x.0 ++ xs) rest.1, ap suc rest.2)

-- what a first signature and the ones after it are read from
sigs_cons : (codes : List ℕ) (n : ℕ) (ws : List ℕ) (one : Option (SigRecord × List ℕ)) (sigs : List SigRecord) → rises_from 0 codes ≡ true → sig_in codes ws ≡ one
    → ((rest : List ℕ) (more : List SigRecord) → sigs_in codes n rest ≡ Some more
    → AllByRecursion (IsSig codes) more × (rest ≡ flat_map (sig_words codes) more) × (length more ≡ n))
    → (one >>= (λ x. option_cons (Some x.0) (sigs_in codes n x.1))) ≡ Some sigs
    → AllByRecursion (IsSig codes) sigs × (ws ≡ flat_map (sig_words codes) sigs) × (length sigs ≡ suc n)
sigs_cons codes n ws None sigs up one ih is = cc
sigs_cons codes n ws (Some x) sigs up one ih is = sigs_more codes n ws x (sigs_in codes n x.1) sigs up one (λ more h. ih x.1 more h) is

-- all signatures that are read are spelled by the words
sigs_back : (codes : List ℕ) (n : ℕ) (ws : List ℕ) (sigs : List SigRecord) → rises_from 0 codes ≡ true → sigs_in codes n ws ≡ Some sigs
    → AllByRecursion (IsSig codes) sigs × (ws ≡ flat_map (sig_words codes) sigs) × (length sigs ≡ n)
unfolding sigs_in
sigs_back codes zero [] sigs up is = let e : [] ≡ sigs = cc in rw (← e) (tt, refl, refl)
sigs_back codes zero (w ∷ ws) sigs up is = cc
sigs_back codes (suc n) ws sigs up is = sigs_cons codes n ws (sig_in codes ws) sigs up refl (λ rest more h. sigs_back codes n rest more up h) is

sigs_forth : (codes : List ℕ) (sigs : List SigRecord) → rises_from 0 codes ≡ true → AllByRecursion (IsSig codes) sigs
    → sigs_in codes (length sigs) (flat_map (sig_words codes) sigs) ≡ Some sigs
unfolding sigs_in
sigs_forth codes [] up h = refl
sigs_forth codes (s ∷ sigs) up h = rw (sig_forth codes s (flat_map (sig_words codes) sigs) up h.0, sigs_forth codes sigs up h.1) refl

codes_rise : (codes : List ℕ) → are_codes codes ≡ true → rises_from 0 codes ≡ true
codes_rise codes h = (and_parts (rises_from 0 codes) (list_all (λ c. nat_le c 13) codes) h).0

paired : (codes : List ℕ) (o : Option (List SigRecord)) (types : List ℕ) (sigs : List SigRecord) → option_map {U = List ℕ × List SigRecord} (λ s. (codes, s)) o ≡ Some (types, sigs)
    → (codes ≡ types) × (o ≡ Some sigs)
paired codes None types sigs h = cc
paired codes (Some s) types sigs h =
    let e : (codes, s) ≡ (types, sigs) = cc in
    (ap (λ (p : List ℕ × List SigRecord). p.0) e, ap (λ (p : List ℕ × List SigRecord). Some p.1) e)

-- the section of signatures that is read is spelled by the words
pub gosig_back : (functions : ℕ) (ws types : List ℕ) (sigs : List SigRecord) → gosig_in functions ws ≡ Some (types, sigs)
    → (are_codes types ≡ true) × AllByRecursion (IsSig types) sigs × (ws ≡ gosig_words types sigs) × (length sigs ≡ functions)
unfolding gosig_in gosig_words
gosig_back functions [] types sigs is = cc
gosig_back functions (count ∷ ws) types sigs is = elim (cases_Bool (nat_le count (length ws) && are_codes (take count ws))) [
  | inl holds ↦
      let parts = and_parts (nat_le count (length ws)) (are_codes (take count ws)) holds in
      let room = leb-true count (length ws) parts.0 in
      let pair = paired (take count ws) (sigs_in (take count ws) functions (drop count ws)) types sigs (rw holds at is) in
      let back = sigs_back (take count ws) functions (drop count ws) sigs (codes_rise (take count ws) parts.1) pair.1 in
      let size : count ≡ length (take count ws) = sym (length-take-le count ws room) in
      let split = sym (take-append-drop count ws) in
      rw (← pair.0) (parts.1, back.0, rw (← size) (ap (λ xs. count ∷ xs) (split ∙ ap (λ xs. take count ws ++ xs) back.1)), back.2)
  | inr fails ↦ let k = rw fails at is in cc
]

-- and read from its words
pub gosig_forth : (types : List ℕ) (sigs : List SigRecord) → are_codes types ≡ true → AllByRecursion (IsSig types) sigs
    → gosig_in (length sigs) (gosig_words types sigs) ≡ Some (types, sigs)
unfolding gosig_in gosig_words
gosig_forth types sigs codes h =
    let W = flat_map (sig_words types) sigs in
    let size = length-append types W in
    let room : nat_le (length types) (length (types ++ W)) ≡ true = le-leb (length types) (length (types ++ W)) (omega arith) in
    let front = take_at types W (length types) refl in
    let back = drop_at types W (length types) refl in
    rw (room, front, back, codes, sigs_forth types sigs (codes_rise types codes) h) refl

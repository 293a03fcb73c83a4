-- Types that are spelled by their names are read.
use Rattle.std.proofs.Common.{◌≡◌, ℕ, List, [], ◌∷◌, ◌++◌, ap, ◌∙◌, refl, arith, append_assoc, Bool, true, false, cond, Some, None}
use Rattle.std.specs.Prelude.{codes}
use Rattle.std.specs.List.{AllByRecursion}
use Rattle.std.specs.Option.{option_map}
use Rattle.std.specs.Str.{bytes_eq}
use Rattle.bk_ops.specs.declared.types.Ty.{Ty}
use Rattle.bk_ops.specs.declared.types.Ty.TheVariants.{Bool as Truth, Int8, Uint8, Int16, Uint16, Int32, Uint32, Int64, Uint64, Int, Uint, Uintptr, Ptr, Mem, Void, Tuple}
use Rattle.bk_dump.specs.Front.{◌>>=◌, or_else, unblanked, after, mark_at, every, onto}
use Rattle.bk_dump.specs.Words.{is_name_byte, is_plain_byte}
use Rattle.bk_dump.specs.Types.{word_types, is_pointer, word_type, named_type, with_type, place_type_at, one_type_at, next_type_at, memory_at, is_word_type, list_at, value_type_at}
use Rattle.bk_dump.specs.Print.{type_name, members}
use Rattle.bk_dump.specs.Parts.{IsNameOf}
use Rattle.bk_dump_laws.proofs.Again.{Stops, plain_again, next_plain_again}
use Rattle.bk_dump.proofs.Runs.{ascii_named}
use Rattle.bk_dump.proofs.Every.{every_none, every_some}
use Rattle.bk_dump.proofs.Shrinking.{next_type_shrinks}

-- the type is no list
abbrev pub is_single : Ty → Bool
is_single Tuple = false
is_single _ = true

pub type_is_named : (t : Ty) → is_single t ≡ true → IsNameOf is_plain_byte (type_name t)
unfolding type_name is_plain_byte is_name_byte
type_is_named Truth h = ascii_named is_plain_byte (type_name Truth) (omega arith) refl refl
type_is_named Int8 h = ascii_named is_plain_byte (type_name Int8) (omega arith) refl refl
type_is_named Uint8 h = ascii_named is_plain_byte (type_name Uint8) (omega arith) refl refl
type_is_named Int16 h = ascii_named is_plain_byte (type_name Int16) (omega arith) refl refl
type_is_named Uint16 h = ascii_named is_plain_byte (type_name Uint16) (omega arith) refl refl
type_is_named Int32 h = ascii_named is_plain_byte (type_name Int32) (omega arith) refl refl
type_is_named Uint32 h = ascii_named is_plain_byte (type_name Uint32) (omega arith) refl refl
type_is_named Int64 h = ascii_named is_plain_byte (type_name Int64) (omega arith) refl refl
type_is_named Uint64 h = ascii_named is_plain_byte (type_name Uint64) (omega arith) refl refl
type_is_named Int h = ascii_named is_plain_byte (type_name Int) (omega arith) refl refl
type_is_named Uint h = ascii_named is_plain_byte (type_name Uint) (omega arith) refl refl
type_is_named Uintptr h = ascii_named is_plain_byte (type_name Uintptr) (omega arith) refl refl
type_is_named Ptr h = ascii_named is_plain_byte (type_name Ptr) (omega arith) refl refl
type_is_named Mem h = ascii_named is_plain_byte (type_name Mem) (omega arith) refl refl
type_is_named Void h = ascii_named is_plain_byte (type_name Void) (omega arith) refl refl
type_is_named Tuple h = absurd (cc)

word_is_single : (t : Ty) → is_word_type t ≡ true → is_single t ≡ true
word_is_single Tuple h = absurd (cc)
word_is_single Truth h = refl
word_is_single Int8 h = refl
word_is_single Uint8 h = refl
word_is_single Int16 h = refl
word_is_single Uint16 h = refl
word_is_single Int32 h = refl
word_is_single Uint32 h = refl
word_is_single Int64 h = refl
word_is_single Uint64 h = refl
word_is_single Int h = refl
word_is_single Uint h = refl
word_is_single Uintptr h = refl
word_is_single Ptr h = refl
word_is_single Mem h = refl
word_is_single Void h = refl

pub word_type_again : (t : Ty) → is_word_type t ≡ true → word_type (type_name t) ≡ Some t
unfolding word_type word_types is_pointer type_name
word_type_again Truth h = refl
word_type_again Int8 h = refl
word_type_again Uint8 h = refl
word_type_again Int16 h = refl
word_type_again Uint16 h = refl
word_type_again Int32 h = refl
word_type_again Uint32 h = refl
word_type_again Int64 h = refl
word_type_again Uint64 h = refl
word_type_again Int h = refl
word_type_again Uint h = refl
word_type_again Uintptr h = refl
word_type_again Ptr h = refl
word_type_again Mem h = absurd (cc)
word_type_again Void h = absurd (cc)
word_type_again Tuple h = absurd (cc)

pub named_type_again : (t : Ty) → is_single t ≡ true → named_type (type_name t) ≡ Some t
unfolding named_type word_type word_types is_pointer type_name
named_type_again Truth h = refl
named_type_again Int8 h = refl
named_type_again Uint8 h = refl
named_type_again Int16 h = refl
named_type_again Uint16 h = refl
named_type_again Int32 h = refl
named_type_again Uint32 h = refl
named_type_again Int64 h = refl
named_type_again Uint64 h = refl
named_type_again Int h = refl
named_type_again Uint h = refl
named_type_again Uintptr h = refl
named_type_again Ptr h = refl
named_type_again Mem h = refl
named_type_again Void h = refl
named_type_again Tuple h = absurd (cc)

pub one_type_again : (t : Ty) (r : List ℕ) → is_single t ≡ true → Stops is_plain_byte r → one_type_at (type_name t ++ r) ≡ Some (t, r)
unfolding one_type_at
one_type_again t r h s =
    ap (λ o. o >>= with_type named_type) (plain_again (type_name t) r (type_is_named t h) s)
    ∙ ap (λ o. option_map (λ t. (t, r)) o) (named_type_again t h)

pub place_type_again : (t : Ty) (r : List ℕ) → is_word_type t ≡ true → Stops is_plain_byte r → place_type_at (type_name t ++ r) ≡ Some (t, r)
unfolding place_type_at
place_type_again t r h s =
    ap (λ o. o >>= with_type word_type) (plain_again (type_name t) r (type_is_named t (word_is_single t h)) s)
    ∙ ap (λ o. option_map (λ t. (t, r)) o) (word_type_again t h)

pub next_place_type_again : (t : Ty) (r : List ℕ) → is_word_type t ≡ true → Stops is_plain_byte r → place_type_at (32 ∷ (type_name t ++ r)) ≡ Some (t, r)
unfolding place_type_at
next_place_type_again t r h s =
    ap (λ o. o >>= with_type word_type) (next_plain_again (type_name t) r (type_is_named t (word_is_single t h)) s)
    ∙ ap (λ o. option_map (λ t. (t, r)) o) (word_type_again t h)

-- behind a comma, with no space and with one
after_comma : (text : List ℕ) → mark_at (codes ",") (44 ∷ text) ≡ Some text
unfolding mark_at after unblanked
after_comma text = refl

pub next_type_again : (t : Ty) (r : List ℕ) → is_word_type t ≡ true → Stops is_plain_byte r → next_type_at (44 ∷ (type_name t ++ r)) ≡ Some (t, r)
unfolding next_type_at
next_type_again t r h s = ap (λ o. o >>= place_type_at) (after_comma (type_name t ++ r)) ∙ place_type_again t r h s

pub spaced_type_again : (t : Ty) (r : List ℕ) → is_word_type t ≡ true → Stops is_plain_byte r → next_type_at (44 ∷ (32 ∷ (type_name t ++ r))) ≡ Some (t, r)
unfolding next_type_at
spaced_type_again t r h s = ap (λ o. o >>= place_type_at) (after_comma (32 ∷ (type_name t ++ r))) ∙ next_place_type_again t r h s

-- the members of a list, behind the first

memory_is_named : IsNameOf is_plain_byte (codes "mem")
unfolding is_plain_byte is_name_byte
memory_is_named = ascii_named is_plain_byte (codes "mem") (omega arith) refl refl

closing_stops : (r : List ℕ) → Stops is_plain_byte (62 ∷ r)
unfolding is_plain_byte is_name_byte
closing_stops r = refl

comma_stops : (r : List ℕ) → Stops is_plain_byte (44 ∷ r)
unfolding is_plain_byte is_name_byte
comma_stops r = refl

pub memory_is_no_word : word_type (codes "mem") ≡ None
unfolding word_type word_types is_pointer type_name
memory_is_no_word = refl

memory_is_no_type : (r : List ℕ) → next_type_at (44 ∷ (codes "mem" ++ (62 ∷ r))) ≡ None
unfolding next_type_at place_type_at
memory_is_no_type r =
    ap (λ o. o >>= place_type_at) (after_comma (codes "mem" ++ (62 ∷ r)))
    ∙ ap (λ o. o >>= with_type word_type) (plain_again (codes "mem") (62 ∷ r) memory_is_named (closing_stops r))
    ∙ ap (λ o. option_map (λ t. (t, 62 ∷ r)) o) memory_is_no_word

abbrev pub AreWords : List Ty → Type 0
AreWords ts = AllByRecursion (λ t. is_word_type t ≡ true) ts

members_again : (ts : List Ty) (r : List ℕ) → AreWords ts → every next_type_at (44 ∷ (members ts ++ (62 ∷ r))) ≡ (ts, 44 ∷ (codes "mem" ++ (62 ∷ r)))
unfolding members
members_again [] r h = every_none next_type_at (44 ∷ (codes "mem" ++ (62 ∷ r))) (memory_is_no_type r)
members_again (t ∷ ts) r h =
    let rest = 44 ∷ (members ts ++ (62 ∷ r)) in
    let regrouped : 44 ∷ (((type_name t ++ codes ",") ++ members ts) ++ (62 ∷ r)) ≡ 44 ∷ (type_name t ++ rest) = ap (λ xs. 44 ∷ xs) (simp append_assoc) in
    ap (every next_type_at) regrouped
    ∙ every_some next_type_at next_type_shrinks (44 ∷ (type_name t ++ rest)) t rest (next_type_again t rest h.0 (comma_stops (members ts ++ (62 ∷ r))))
    ∙ ap (onto t) (members_again ts r h.1)

memory_again : (r : List ℕ) → memory_at (44 ∷ (codes "mem" ++ (62 ∷ r))) ≡ Some r
unfolding memory_at mark_at after unblanked
memory_again r = ap (λ o. o >>= λ n. cond (bytes_eq n.0 (codes "mem")) (mark_at (codes ">") n.1) None) (plain_again (codes "mem") (62 ∷ r) memory_is_named (closing_stops r))

list_again : (t : Ty) (ts : List Ty) (r : List ℕ) → is_word_type t ≡ true → AreWords ts → list_at t (44 ∷ (members ts ++ (62 ∷ r))) ≡ Some (Tuple, r)
unfolding list_at
list_again t ts r h g =
    ap (λ b. cond b (option_map (λ r. (Tuple, r)) (memory_at (every next_type_at (44 ∷ (members ts ++ (62 ∷ r)))).1)) None) h
    ∙ ap (λ x. option_map (λ r. (Tuple, r)) (memory_at x.1)) (members_again ts r g)
    ∙ ap (λ o. option_map (λ r. (Tuple, r)) o) (memory_again r)

opening : (text : List ℕ) → mark_at (codes "<") (32 ∷ (60 ∷ text)) ≡ Some text
unfolding mark_at after unblanked
opening text = refl

closing : (r : List ℕ) → mark_at (codes ">") (62 ∷ r) ≡ Some r
unfolding mark_at after unblanked
closing r = refl

open_list : (text : List ℕ) → mark_at (codes ">") (44 ∷ text) ≡ None
unfolding mark_at after unblanked
open_list text = refl

-- ` <T>`
pub single_again : (t : Ty) (r : List ℕ) → is_single t ≡ true → value_type_at (32 ∷ (60 ∷ (type_name t ++ (62 ∷ r)))) ≡ Some (t, r)
unfolding value_type_at
single_again t r h =
    ap (λ o. o >>= λ a. one_type_at a >>= λ t. or_else (option_map (λ r. (t.0, r)) (mark_at (codes ">") t.1)) (list_at t.0 t.1)) (opening (type_name t ++ (62 ∷ r)))
    ∙ ap (λ o. o >>= λ t. or_else (option_map (λ r. (t.0, r)) (mark_at (codes ">") t.1)) (list_at t.0 t.1)) (one_type_again t (62 ∷ r) h (closing_stops r))
    ∙ ap (λ o. or_else (option_map (λ r. (t, r)) o) (list_at t (62 ∷ r))) (closing r)

-- ` <T,T,mem>`
pub tuple_again : (t : Ty) (ts : List Ty) (r : List ℕ) → AreWords (t ∷ ts) → value_type_at (32 ∷ (60 ∷ (members (t ∷ ts) ++ (62 ∷ r)))) ≡ Some (Tuple, r)
unfolding value_type_at members
tuple_again t ts r h =
    let rest = 44 ∷ (members ts ++ (62 ∷ r)) in
    let regrouped : ((type_name t ++ codes ",") ++ members ts) ++ (62 ∷ r) ≡ type_name t ++ rest = simp append_assoc in
    ap (λ text. value_type_at (32 ∷ (60 ∷ text))) regrouped
    ∙ ap (λ o. o >>= λ a. one_type_at a >>= λ t. or_else (option_map (λ r. (t.0, r)) (mark_at (codes ">") t.1)) (list_at t.0 t.1)) (opening (type_name t ++ rest))
    ∙ ap (λ o. o >>= λ t. or_else (option_map (λ r. (t.0, r)) (mark_at (codes ">") t.1)) (list_at t.0 t.1)) (one_type_again t rest (word_is_single t h.0) (comma_stops (members ts ++ (62 ∷ r))))
    ∙ ap (λ o. or_else (option_map (λ r. (t, r)) o) (list_at t rest)) (open_list (members ts ++ (62 ∷ r)))
    ∙ list_again t ts r h.0 h.1

-- The lines of values, as they are written, spell the values.
use Rattle.std.proofs.Common.{◌≡◌, ◌≢◌, ℕ, ℤ, pos, negsuc, zero, suc, ◌+◌, ◌-◌, ◌^◌, ◌<◌, ◌≤◌, List, [], ◌∷◌, ◌++◌, ap, ◌∙◌, sym, refl, subst, arith, append_assoc, append-nil, Bool, true, false, cond, inl, inr}
use Rattle.std.specs.Prelude.{codes, nat_lt}
use Rattle.std.specs.Fmt.{decimal, signed_decimal}
use Rattle.std.specs.List.{AllByRecursion, AllZip}
use Rattle.std.specs.Str.Parse.{AllDigits}
use Rattle.std.specs.Str.{IsAscii}
use Rattle.std.proofs.lemmas.Bool.Decides.{nat_tests}
use Rattle.std.proofs.lemmas.Fmt.{decimal_is_IsNumeral}
use Rattle.std.proofs.lemmas.Str.{IsUtf8-from_ascii, is_utf8-from_IsUtf8}
use Rattle.bk_ops.specs.declared.table.AuxKind.{AuxKind}
use Rattle.bk_ops.specs.declared.table.AuxKind.TheVariants as kind_of_aux
use Rattle.bk_ops.specs.declared.table.Op.{Op}
use Rattle.bk_ops.specs.declared.types.Ty.{Ty}
use Rattle.bk_ops.specs.declared.types.Ty.TheVariants.{Tuple}
use Rattle.bk_ops.specs.Names.{name_of}
use Rattle.bk_ops.specs.Table.{is_op, info_of}
use Rattle.bk_ops.proofs.Reading.{read_name}
use Rattle.bk_func.specs.declared.parts.Aux.{Aux}
use Rattle.bk_func.specs.declared.parts.Aux.TheVariants as aux
use Rattle.bk_func.specs.Records.{ValueRecord, SigRecord, PackageRecord}
use Rattle.bk_dump.specs.declared.read.beside.Braces.{Braces}
use Rattle.bk_dump.specs.declared.read.beside.Braces.TheVariants as braces
use Rattle.bk_dump.specs.declared.read.beside.Square.{Square}
use Rattle.bk_dump.specs.declared.read.beside.Square.TheVariants as square
use Rattle.bk_dump.specs.Words.{is_name_byte, is_plain_byte}
use Rattle.bk_dump.specs.Parts.{Part, word, mark, behind_commas, listed, Spells, IsName, IsPlainName}
use Rattle.bk_dump_laws.specs.Lines.{IsWordType, IsPlaceType, IsOneType, IsPlace, IsType, IsInt, IsSquare, bracketed, IsBraces, braced, IsValueLine}
use Rattle.bk_dump.specs.Values.{braces_of, square_of, constants_of, is_written}
use Rattle.bk_dump.specs.Print.{type_name, symbol, argument_name, members, tuple_types, value_type, aux_part, int_part, value_front, value_back, value_line, numbers}
use Rattle.bk_dump_laws.specs.Printed.{mention_of, value_tree, HasTypes, FitsBraces, IsKeptAs, FitsSquare, FitsValue}
use Rattle.bk_dump.proofs.Runs.{both_hold}
use Rattle.bk_dump.proofs.Numbers.{digit_is}
use Rattle.bk_dump_laws.proofs.SpelledTypes.{is_single, type_is_named}
use Rattle.bk_dump_laws.proofs.OpRows.{is_int, has_int, int_is_written, name_is_worded}
use Rattle.bk_dump_laws.proofs.Writing.{Solid, name_solid, plain_solid, word_solid, solid_decimal, Writes, Begins, writes_mark, writes_word, writes_last, spaced, writes_append, is_decimal, is_numbered, numbered_solid, number_parts, numbers_are, numbers_begin, writes_numbers}

-- Names of arguments.

digits_are_plain : (ds : List ℕ) → AllDigits 10 ds → AllByRecursion (λ c. is_plain_byte c ≡ true) ds
unfolding is_plain_byte is_name_byte
digits_are_plain [] h = tt
digits_are_plain (d ∷ ds) h = (let f = digit_is d h.0 in grind (arith, nat_tests), digits_are_plain ds h.1)

ascii_digits : (ds : List ℕ) → AllDigits 10 ds → IsAscii ds
ascii_digits [] h i = omega arith
ascii_digits (d ∷ ds) h zero = let f = digit_is d h.0 in omega arith
ascii_digits (d ∷ ds) h (suc i) = ascii_digits ds h.1 i

ascii_more : (c : ℕ) (ds : List ℕ) → c < 128 → AllDigits 10 ds → IsAscii (c ∷ ds)
ascii_more c ds l h zero = l
ascii_more c ds l h (suc i) = ascii_digits ds h i

letter_is_plain : (c : ℕ) → 97 ≤ c → c < 123 → is_plain_byte c ≡ true
unfolding is_plain_byte is_name_byte
letter_is_plain c h l = grind (arith, nat_tests)

lettered : (c : ℕ) (ds : List ℕ) → 97 ≤ c → c < 123 → AllDigits 10 ds → IsPlainName (c ∷ ds)
lettered c ds l g h = record {
  some = omega arith;
  bytes = (letter_is_plain c l g, digits_are_plain ds h);
  utf8 = is_utf8-from_IsUtf8 (c ∷ ds) (IsUtf8-from_ascii (c ∷ ds) (ascii_more c ds (omega arith) h));
}

below : (k : ℕ) → nat_lt k 26 ≡ true → 97 + k < 123
below k h = grind (arith, nat_tests)

name_by : (b : Bool) (k : ℕ) → nat_lt k 26 ≡ b → k < 2 ^ 64 → IsPlainName (cond b ((97 + k) ∷ []) (codes "a" ++ decimal k))
name_by true k e h = lettered (97 + k) [] (omega arith) (below k e) tt
name_by false k e h = lettered 97 (decimal k) (omega arith) (omega arith) (decimal_is_IsNumeral k h).0.1

pub argument_is_named : (k : ℕ) → k < 2 ^ 64 → IsPlainName (argument_name k)
unfolding argument_name
argument_is_named k h = name_by (nat_lt k 26) k refl h

plain_byte_is : (c : ℕ) → is_plain_byte c ≡ true → is_name_byte c ≡ true
unfolding is_plain_byte
plain_byte_is c h = (both_hold (is_name_byte c) _ h).0

plain_bytes_are : (n : List ℕ) → AllByRecursion (λ c. is_plain_byte c ≡ true) n → AllByRecursion (λ c. is_name_byte c ≡ true) n
plain_bytes_are [] h = tt
plain_bytes_are (c ∷ n) h = (plain_byte_is c h.0, plain_bytes_are n h.1)

plain_is_name : (n : List ℕ) → IsPlainName n → IsName n
plain_is_name n h = record { some = h.some; bytes = plain_bytes_are n h.bytes; utf8 = h.utf8 }

-- Types.

single_of : (t : Ty) → t ≢ Tuple → is_single t ≡ true
single_of Tuple h = absurd (h refl)
single_of _ h = refl

no_list : (t : Ty) → is_single t ≡ true → t ≢ Tuple
no_list t h e = absurd (let f : is_single Tuple ≡ true = ap is_single (sym e) ∙ h in cc)

pub named_type : (t : Ty) → t ≢ Tuple → IsPlainName (type_name t)
named_type t h = type_is_named t (single_of t h)

pub type_solid : (t : Ty) → t ≢ Tuple → Solid (type_name t)
type_solid t h = plain_solid (type_name t) (named_type t h)

pub place_type : (t : Ty) → IsWordType t → IsPlaceType (type_name t) t
place_type t h = (named_type t h.2, inl (refl, h))

one_type : (t : Ty) → t ≢ Tuple → IsOneType (type_name t) t
one_type t h = (named_type t h, inl (refl, h))

abbrev pub each_type : List Ty → List (List Part)
each_type [] = []
each_type (t ∷ ts) = (word (type_name t) ∷ []) ∷ each_type ts

pub are_places : (ts : List Ty) → AllByRecursion IsWordType ts → AllZip IsPlace (each_type ts) ts
are_places [] h = tt
are_places (t ∷ ts) h = ((type_name t, refl, place_type t h.0), are_places ts h.1)

abbrev memory : List (List Part)
memory = (word (codes "mem") ∷ []) ∷ []

comma_solid : Solid (codes ",")
comma_solid = (omega arith, tt)

memory_solid : Solid (codes "mem")
memory_solid = (omega arith, (omega arith, (omega arith, tt)))

begins_comma : (ts : List Ty) (text : List ℕ) → Begins (behind_commas (each_type ts ++ memory)) text
begins_comma [] text = tt
begins_comma (t ∷ ts) text = tt

writes_members_behind : (ts : List Ty) → AllByRecursion IsWordType ts → Writes (behind_commas (each_type ts ++ memory)) (44 ∷ members ts)
unfolding members
writes_members_behind [] h = writes_mark (codes ",") (word (codes "mem") ∷ []) (codes "mem") comma_solid (writes_last (codes "mem") memory_solid)
writes_members_behind (t ∷ ts) h =
    let more = behind_commas (each_type ts ++ memory) in
    let text = type_name t ++ (44 ∷ members ts) in
    subst (λ w. Writes (mark (codes ",") ∷ (word (type_name t) ∷ more)) (44 ∷ w)) (sym (append_assoc (type_name t) (codes ",") (members ts)))
    (writes_mark (codes ",") (word (type_name t) ∷ more) text comma_solid (writes_word (type_name t) more (44 ∷ members ts) (type_solid t h.0.2) (begins_comma ts (44 ∷ members ts)) (writes_members_behind ts h.1)))

writes_members : (ts : List Ty) → AllByRecursion IsWordType ts → Writes (listed (each_type ts ++ memory)) (members ts)
unfolding members
writes_members [] h = writes_last (codes "mem") memory_solid
writes_members (t ∷ ts) h =
    let more = behind_commas (each_type ts ++ memory) in
    subst (Writes (word (type_name t) ∷ more)) (sym (append_assoc (type_name t) (codes ",") (members ts)))
    (writes_word (type_name t) more (44 ∷ members ts) (type_solid t h.0.2) (begins_comma ts (44 ∷ members ts)) (writes_members_behind ts h.1))

abbrev type_parts : List Ty → Ty → List Part
type_parts ts Tuple = listed (each_type ts ++ memory)
type_parts ts t = word (type_name t) ∷ []

writes_type : (p : PackageRecord) (s : SigRecord) (x : Aux) (t : Ty) → HasTypes (tuple_types p s x) t → Writes (type_parts (tuple_types p s x) t) (value_type p s x t)
unfolding value_type
writes_type p s x Tuple h = writes_members (tuple_types p s x) (h refl).1
writes_type p s x t h = writes_last (type_name t) (type_solid t (no_list t refl))

is_type : (ts : List Ty) (t : Ty) → HasTypes ts t → IsType (type_parts ts t) t
is_type ts Tuple h = inr (each_type ts, ts, are_places ts (h refl).1, (h refl).0, refl, refl)
is_type ts t h = inl (type_name t, refl, one_type t (no_list t refl))

-- Braces.

abbrev braced_name : List ℕ → List Part
braced_name n = braced (word n ∷ [])

abbrev aux_parts : List (List ℕ) → Aux → List Part
aux_parts names aux.Nothing = []
aux_parts names (aux.Sym n) = braced_name (symbol names n)
aux_parts names (aux.Ty t) = braced_name (type_name t)
aux_parts names (aux.Arg k) = braced_name (argument_name k)

writes_braced : (n : List ℕ) → Solid n → Writes (braced_name n) (codes " {" ++ (n ++ codes "}"))
writes_braced n s =
    spaced (braced_name n) (codes "{" ++ (n ++ codes "}"))
    (writes_mark (codes "{") (word n ∷ (mark (codes "}") ∷ [])) (n ++ codes "}") (omega arith, tt) (writes_word n (mark (codes "}") ∷ []) (codes "}") s tt (writes_mark (codes "}") [] [] (omega arith, tt) (tt, tt))))

-- what an op has in braces is spelled, and written
abbrev BracesOf : List (List ℕ) → Braces → Aux → Type 0
BracesOf names k x = IsBraces k (aux_parts names x) (mention_of names x) × Writes (aux_parts names x) (aux_part names x)

braces_written : (names : List (List ℕ)) (k : Braces) (x : Aux) → FitsBraces names k x → BracesOf names k x
unfolding aux_part
braces_written names braces.Nothing x h = subst (BracesOf names braces.Nothing) (sym h) ((refl, refl), (tt, tt))
braces_written names braces.Ignored x h = subst (BracesOf names braces.Ignored) (sym h) ((refl, inl refl), (tt, tt))
braces_written names braces.Type x (t, e, single) =
    subst (BracesOf names braces.Type) (sym e) ((type_name t, t, refl, one_type t single, refl), writes_braced (type_name t) (type_solid t single))
braces_written names braces.Name x (inl (n, e, named)) =
    subst (BracesOf names braces.Name) (sym e) ((symbol names n, refl, named, refl), writes_braced (symbol names n) (name_solid (symbol names n) named))
braces_written names braces.Name x (inr (k, e, small)) =
    let named = argument_is_named k small in
    subst (BracesOf names braces.Name) (sym e) ((argument_name k, refl, plain_is_name (argument_name k) named, refl), writes_braced (argument_name k) (plain_solid (argument_name k) named))
braces_written names braces.Callee x (n, e, named) =
    subst (BracesOf names braces.Callee) (sym e) ((symbol names n, named, refl, inl refl), writes_braced (symbol names n) (name_solid (symbol names n) named))

-- Square brackets.

abbrev number_in : ℤ → List Part
number_in z = bracketed (word (signed_decimal z) ∷ [])

abbrev int_parts : Square → ℤ → List Part
int_parts k z = cond (has_int k) (number_in z) []

is_int_of : (all : ℕ) (z : ℤ) → IsKeptAs all z → IsInt all (word (signed_decimal z) ∷ []) z
is_int_of all (pos n) h = (decimal n, n, is_decimal n (omega arith), inl (refl, inr (h.0, h.1, refl)))
is_int_of all (negsuc n) h = (decimal (suc n), suc n, is_decimal (suc n) (omega arith), inr (refl, omega arith, omega arith, ap negsuc (let q : n ≡ suc n - 1 = omega arith in q)))

is_square : (k : Square) (all : ℕ) (z : ℤ) → FitsSquare k all z → IsSquare k all (int_parts k z) z
is_square square.Nothing all z h = (refl, h)
is_square square.Number all z h = (word (signed_decimal z) ∷ [], refl, is_int_of all z h)
is_square square.Truth all z h = (word (signed_decimal z) ∷ [], refl, inr (inr (is_int_of all z h)))
is_square square.Ignored all z h = (h, inl refl)
is_square square.IgnoredTruth all z h = (h, inl refl)

kept_solid : (all : ℕ) (z : ℤ) → IsKeptAs all z → Solid (signed_decimal z)
kept_solid all (pos n) h = solid_decimal n (let q = h.1 in omega arith)
kept_solid all (negsuc n) h = (omega arith, solid_decimal (suc n) (omega arith))

nothing_solid : (z : ℤ) → z ≡ pos 0 → Solid (signed_decimal z)
nothing_solid z h = subst (λ z. Solid (signed_decimal z)) (sym h) (solid_decimal 0 (omega arith))

square_solid : (k : Square) (all : ℕ) (z : ℤ) → FitsSquare k all z → Solid (signed_decimal z)
square_solid square.Nothing all z h = nothing_solid z h
square_solid square.Number all z h = kept_solid all z h
square_solid square.Truth all z h = kept_solid all z h
square_solid square.Ignored all z h = nothing_solid z h
square_solid square.IgnoredTruth all z h = nothing_solid z h

writes_bracketed : (z : ℤ) → Solid (signed_decimal z) → Writes (number_in z) (codes " [" ++ (signed_decimal z ++ codes "]"))
writes_bracketed z s =
    spaced (number_in z) (codes "[" ++ (signed_decimal z ++ codes "]"))
    (writes_mark (codes "[") (word (signed_decimal z) ∷ (mark (codes "]") ∷ [])) (signed_decimal z ++ codes "]") (omega arith, tt) (writes_word (signed_decimal z) (mark (codes "]") ∷ []) (codes "]") s tt (writes_mark (codes "]") [] [] (omega arith, tt) (tt, tt))))

part_is : (x : AuxKind) (z : ℤ) → cond (is_int x) (codes " [" ++ (signed_decimal z ++ codes "]")) [] ≡ int_part x z
unfolding int_part
part_is kind_of_aux.None z = refl
part_is kind_of_aux.Int z = refl
part_is kind_of_aux.Name z = refl
part_is kind_of_aux.Ty z = refl

writes_where : (b : Bool) (z : ℤ) → Solid (signed_decimal z) → Writes (cond b (number_in z) []) (cond b (codes " [" ++ (signed_decimal z ++ codes "]")) [])
writes_where true z s = writes_bracketed z s
writes_where false z s = (tt, tt)

writes_int : (o : Op) (all : ℕ) (z : ℤ) → is_op o.family o.a o.b ≡ true → is_written o.family ≡ true → FitsSquare (square_of o.family) all z → Writes (int_parts (square_of o.family) z) (int_part (info_of o).aux z)
writes_int o all z k w h =
    let has = has_int (square_of o.family) in
    subst (Writes (int_parts (square_of o.family) z)) (ap (λ b. cond b (codes " [" ++ (signed_decimal z ++ codes "]")) []) (sym (int_is_written o k w)) ∙ part_is (info_of o).aux z)
    (writes_where has z (square_solid (square_of o.family) all z h))

int_begins : (b : Bool) (z : ℤ) (text : List ℕ) → Begins (cond b (number_in z) []) text
int_begins true z text = tt
int_begins false z text = tt

-- The line.

abbrev value_parts : PackageRecord → SigRecord → ValueRecord → List Part
value_parts p s v =
    word (codes "v" ++ decimal v.id) ∷ (mark (codes "=") ∷ (word (name_of v.op) ∷ (mark (codes "<") ∷ (type_parts (tuple_types p s v.aux) v.ty
    ++ (mark (codes ">") ∷ ((aux_parts p.names v.aux ++ int_parts (square_of v.op.family) v.int) ++ number_parts (codes "v") v.args))))))

abbrev pub value_text : PackageRecord → SigRecord → ValueRecord → List ℕ
value_text p s v =
    codes "  v" ++ (decimal v.id ++ (codes " = " ++ (name_of v.op ++ (codes " <" ++ (value_type p s v.aux v.ty
    ++ (codes ">" ++ ((aux_part p.names v.aux ++ int_part (info_of v.op).aux v.int) ++ numbers (codes " v") v.args)))))))

pub value_line_is : (p : PackageRecord) (s : SigRecord) (v : ValueRecord) → value_line p s v ≡ value_text p s v ++ codes "\n"
unfolding value_line value_front value_back
value_line_is p s v = simp append_assoc

writes_value : (p : PackageRecord) (s : SigRecord) (v : ValueRecord) → FitsValue p s v → Writes (value_parts p s v) (value_text p s v)
writes_value p s v h =
    let beside_name = aux_parts p.names v.aux in
    let ip = int_parts (square_of v.op.family) v.int in
    let args = number_parts (codes "v") v.args in
    let tp = type_parts (tuple_types p s v.aux) v.ty in
    let ty = value_type p s v.aux v.ty in
    let beside = aux_part p.names v.aux ++ int_part (info_of v.op).aux v.int in
    let braced = (braces_written p.names (braces_of v.op.family) v.aux h.braced).1 in
    let squared = writes_int v.op (constants_of v.op.family v.op.a) v.int h.op h.written h.squared in
    let both = writes_append beside_name ip (aux_part p.names v.aux) (int_part (info_of v.op).aux v.int) braced squared (int_begins (has_int (square_of v.op.family)) v.int (int_part (info_of v.op).aux v.int)) in
    let tail = writes_append (beside_name ++ ip) args beside (numbers (codes " v") v.args) both (writes_numbers (codes "v") v.args (omega arith, tt) h.args) (numbers_begin (codes "v") v.args) in
    let closed = writes_mark (codes ">") ((beside_name ++ ip) ++ args) (beside ++ numbers (codes " v") v.args) (omega arith, tt) tail in
    let typed = writes_append tp (mark (codes ">") ∷ ((beside_name ++ ip) ++ args)) ty (codes ">" ++ (beside ++ numbers (codes " v") v.args)) (writes_type p s v.aux v.ty h.typed) closed tt in
    let parts = mark (codes "<") ∷ (tp ++ (mark (codes ">") ∷ ((beside_name ++ ip) ++ args))) in
    let text = ty ++ (codes ">" ++ (beside ++ numbers (codes " v") v.args)) in
    let opened = spaced parts (codes "<" ++ text) (writes_mark (codes "<") (tp ++ (mark (codes ">") ∷ ((beside_name ++ ip) ++ args))) text (omega arith, tt) typed) in
    let named = writes_word (name_of v.op) parts (codes " <" ++ text) (word_solid (name_of v.op) (name_is_worded v.op h.written)) tt opened in
    let right = word (name_of v.op) ∷ parts in
    let equal = spaced (mark (codes "=") ∷ right) (codes "= " ++ (name_of v.op ++ (codes " <" ++ text))) (writes_mark (codes "=") right (32 ∷ (name_of v.op ++ (codes " <" ++ text))) (omega arith, tt) (spaced right (name_of v.op ++ (codes " <" ++ text)) named)) in
    let whole = writes_word (codes "v" ++ decimal v.id) (mark (codes "=") ∷ right) (codes " = " ++ (name_of v.op ++ (codes " <" ++ text))) (numbered_solid (codes "v") v.id (omega arith, tt) h.id) tt equal in
    spaced (value_parts p s v) (codes " v" ++ (decimal v.id ++ (codes " = " ++ (name_of v.op ++ (codes " <" ++ text)))))
    (spaced (value_parts p s v) (codes "v" ++ (decimal v.id ++ (codes " = " ++ (name_of v.op ++ (codes " <" ++ text))))) whole)

is_value_line : (p : PackageRecord) (s : SigRecord) (v : ValueRecord) → FitsValue p s v → IsValueLine (value_parts p s v) (value_tree p.names v)
is_value_line p s v h =
    let args = number_parts (codes "v") v.args in
    let beside = aux_parts p.names v.aux ++ int_parts (square_of v.op.family) v.int in
    record {
      id = word (codes "v" ++ decimal v.id);
      behind_id = [];
      name = name_of v.op;
      types = type_parts (tuple_types p s v.aux) v.ty;
      aux = aux_parts p.names v.aux;
      int = int_parts (square_of v.op.family) v.int;
      beside = beside;
      args = args;
      groups = [];
      inside = [];
      dropped = [];
      spelled = ap (λ a. word (codes "v" ++ decimal v.id) ∷ (mark (codes "=") ∷ (word (name_of v.op) ∷ (mark (codes "<") ∷ (type_parts (tuple_types p s v.aux) v.ty ++ (mark (codes ">") ∷ (beside ++ a))))))) (sym (append-nil args));
      numbered = is_numbered (codes "v") v.id h.id;
      grouped = (tt, omega arith);
      worded = name_is_worded v.op h.written;
      named = (read_name (name_of v.op) v.op (h.op, refl), h.written);
      typed = is_type (tuple_types p s v.aux) v.ty h.typed;
      mentions = (braces_written p.names (braces_of v.op.family) v.aux h.braced).0;
      squared = is_square (square_of v.op.family) (constants_of v.op.family v.op.a) v.int h.squared;
      ordered = inl refl;
      takes = numbers_are (codes "v") v.args h.args;
      ended = tt;
    }

pub value_spells : (p : PackageRecord) (s : SigRecord) (v : ValueRecord) → FitsValue p s v → Spells IsValueLine (value_text p s v) (value_tree p.names v) × Solid (value_text p s v)
value_spells p s v h = let w = writes_value p s v h in ((value_parts p s v, w.0, is_value_line p s v h), w.1)

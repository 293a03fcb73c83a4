-- What the lines of a text that is read have: numbers, names, types of words, and beside ops what the ops ask.
use Rattle.std.proofs.Common.{◌≡◌, ◌≢◌, ℕ, ℤ, pos, negsuc, suc, ◌-◌, ◌*◌, ◌^◌, ◌<◌, ◌≤◌, List, [], ◌∷◌, ◌++◌, length, map, ◌∙◌, sym, refl, subst, arith, Bool, true, false, cond, Option, Some, ◌⊎◌, inl, inr}
use Rattle.std.specs.Prelude.{codes, ◌==◌, ◌||◌, not, filter}
use Rattle.std.specs.List.{AllByRecursion, AllZip}
use Rattle.std.specs.Option.{is_some}
use Rattle.bk_text.specs.Tokens.{is_blank}
use Rattle.bk_ops.specs.Table.{is_op}
use Rattle.bk_ops.specs.declared.family.Family.{Family}
use Rattle.bk_ops.specs.declared.family.Family.TheVariants as family
use Rattle.bk_ops.specs.declared.types.Ty.{Ty}
use Rattle.bk_ops.specs.declared.types.Ty.TheVariants.{Ptr, Tuple}
use Rattle.bk_ops.proofs.Reading.{name_read}
use Rattle.bk_func.specs.declared.parts.Kind.{Kind}
use Rattle.bk_func.specs.declared.parts.Kind.TheVariants.{Plain, If, First, Ret, Exit}
use Rattle.bk_func.specs.declared.parts.Likely.{Likely}
use Rattle.bk_dump.specs.declared.read.beside.Braces.{Braces}
use Rattle.bk_dump.specs.declared.read.beside.Braces.TheVariants as braces
use Rattle.bk_dump.specs.declared.read.beside.Square.{Square}
use Rattle.bk_dump.specs.declared.read.beside.Square.TheVariants as square
use Rattle.bk_dump.specs.Front.{unblanked, after, mark_at}
use Rattle.bk_dump.specs.Words.{is_name_byte}
use Rattle.bk_dump.specs.Parts.{Part, word, mark, listed, BeginsBlank, Lays, Spells, IsName, IsNumbered}
use Rattle.bk_dump_laws.specs.Lines.{IsWordType, IsPlaceType, IsOneType, IsPlace, IsParameter, IsKept, IsInt, IsTruth, IsSquare, IsBraces, IsControl, AreSuccessors, IsFuncLine, IsBlockLine, IsValueLine, IsEndLine}
use Rattle.bk_dump.specs.Blocks.{mark_of, likely_of}
use Rattle.bk_dump.specs.Values.{braces_of, square_of, constants_of, is_written}
use Rattle.bk_dump.specs.Trees.{MentionTree, ValueTree, LabelTree, EndTree, ParameterTree, HeaderTree, no_mention, of_type, of_name}
use Rattle.bk_dump.specs.Texts.{is_skipped}
use Rattle.bk_dump_laws.specs.Declarations.{Line, var_line, func_line, block_line, value_line, end_line, SpellsLine}
use Rattle.bk_dump_laws.specs.Printed.{IsShort, AreShort, IsKeptAs, FitsSquare, FitsKind}
use Rattle.bk_dump_laws.proofs.Laying.{names_solid, solid_begins, unblanked_over}
use Rattle.bk_dump_laws.proofs.Again.{unblanked_same}
use Rattle.bk_dump_laws.proofs.WrittenTexts.{named_alike}

-- Numbers.

numbered_short : (letter : List ℕ) (part : Part) (n : ℕ) → IsNumbered letter part n → IsShort n
numbered_short letter part n (digits, all, d, e, m) = omega (arith, m)

all_short : (letter : List ℕ) (parts : List Part) (ns : List ℕ) → AllZip (IsNumbered letter) parts ns → AreShort ns
all_short letter [] [] h = tt
all_short letter [] (n ∷ ns) h = absurd h
all_short letter (p ∷ ps) [] h = absurd h
all_short letter (p ∷ ps) (n ∷ ns) h = (numbered_short letter p n h.0, all_short letter ps ns h.1)

-- What stands in braces.

abbrev pub Mentions : Braces → MentionTree → Type 0
Mentions braces.Nothing m = m ≡ no_mention
Mentions braces.Type m = (ty : Ty) × (m ≡ of_type ty) × (ty ≢ Tuple)
Mentions braces.Name m = (name : List ℕ) × (m ≡ of_name name)
Mentions braces.Callee m = (name : List ℕ) × (m ≡ of_name name)
Mentions braces.Ignored m = m ≡ no_mention

one_is_single : (name : List ℕ) (ty : Ty) → IsOneType name ty → ty ≢ Tuple
one_is_single name ty (n, inl h) = h.1
one_is_single name ty (n, inr h) = λ e. absurd (let q : Ptr ≡ Tuple = sym h.1 ∙ e in cc)

mentions : (k : Braces) (parts : List Part) (m : MentionTree) → IsBraces k parts m → Mentions k m
mentions braces.Nothing parts m h = h.1
mentions braces.Type parts m (name, ty, e, one, is) = (ty, is, one_is_single name ty one)
mentions braces.Name parts m (name, e, n, is) = (name, is)
mentions braces.Callee parts m (name, n, is, e) = (name, is)
mentions braces.Ignored parts m h = h.0

-- What stands in square brackets.

-- no number, or one of 8 bits and more
abbrev Wide : ℕ → Type 0
Wide all = (all ≤ 2 ^ 64) × ((all ≡ 0) ⊎ (2 ^ 8 ≤ all))

none_wide : Wide 0
none_wide = (omega arith, inl refl)

some_wide : (all : ℕ) → all ≤ 2 ^ 64 → 2 ^ 8 ≤ all → Wide all
some_wide all h l = (h, inr l)

either_wide : (b : Bool) (x y : ℕ) → Wide x → Wide y → Wide (cond b x y)
either_wide true x y h g = h
either_wide false x y h g = g

const_wide : (bits : ℕ) → Wide (constants_of family.Const bits)
unfolding constants_of
const_wide bits =
    either_wide (bits == 8) (2 ^ 8) _ (some_wide (2 ^ 8) (omega arith) (omega arith)) (either_wide (bits == 16) (2 ^ 16) _ (some_wide (2 ^ 16) (omega arith) (omega arith))
    (either_wide (bits == 32) (2 ^ 32) _ (some_wide (2 ^ 32) (omega arith) (omega arith)) (either_wide (bits == 64) (2 ^ 64) 0 (some_wide (2 ^ 64) (omega arith) (omega arith)) none_wide)))

constants_wide : (f : Family) (bits : ℕ) → Wide (constants_of f bits)
unfolding constants_of
constants_wide family.Const bits = const_wide bits
constants_wide _ bits = none_wide

below : (all n : ℕ) (z : ℤ) → all ≤ 2 ^ 64 → n < all → all ≤ 2 * n → z ≡ negsuc (all - suc n) → IsKeptAs all z
below all n z h l m e = subst (IsKeptAs all) (sym e) (omega arith)

from_zero : (all n : ℕ) (z : ℤ) → (all ≤ n) ⊎ (2 * n < all) → n < 2 ^ 63 → z ≡ pos n → IsKeptAs all z
from_zero all n z c l e = subst (IsKeptAs all) (sym e) (c, l)

kept : (all n : ℕ) (z : ℤ) → all ≤ 2 ^ 64 → IsKept all n z → IsKeptAs all z
kept all n z h (inl (l, m, e)) = below all n z h l m e
kept all n z h (inr (c, l, e)) = from_zero all n z c l e

int_kept : (all : ℕ) (parts : List Part) (z : ℤ) → all ≤ 2 ^ 64 → IsInt all parts z → IsKeptAs all z
int_kept all parts z h (digits, n, d, inl (e, k)) = kept all n z h k
int_kept all parts z h (digits, n, d, inr (e, l, m, k)) = subst (IsKeptAs all) (sym k) (omega arith)

small_kept : (all n : ℕ) → (all ≡ 0) ⊎ (2 ^ 8 ≤ all) → n < 2 → (all ≤ n) ⊎ (2 * n < all)
small_kept all n (inl e) l = inl (omega arith)
small_kept all n (inr g) l = inr (omega arith)

truth_kept : (all : ℕ) (parts : List Part) (z : ℤ) → Wide all → IsTruth all parts z → IsKeptAs all z
truth_kept all parts z h (inl (e, is)) = from_zero all 1 z (small_kept all 1 h.1 (omega arith)) (omega arith) is
truth_kept all parts z h (inr (inl (e, is))) = from_zero all 0 z (small_kept all 0 h.1 (omega arith)) (omega arith) is
truth_kept all parts z h (inr (inr i)) = int_kept all parts z h.0 i

squared : (k : Square) (all : ℕ) (parts : List Part) (z : ℤ) → Wide all → IsSquare k all parts z → FitsSquare k all z
squared square.Nothing all parts z w h = h.1
squared square.Number all parts z w (inside, e, i) = int_kept all inside z w.0 i
squared square.Truth all parts z w (inside, e, i) = truth_kept all inside z w i
squared square.Ignored all parts z w h = h.0
squared square.IgnoredTruth all parts z w h = h.0

-- Lines.

pub record SoundValue (v : ValueTree) : Type 0 where
  pub id : IsShort v.id
  pub op : is_op v.op.family v.op.a v.op.b ≡ true
  pub written : is_written v.op.family ≡ true
  pub mentions : Mentions (braces_of v.op.family) v.mention
  pub squared : FitsSquare (square_of v.op.family) (constants_of v.op.family v.op.a) v.int
  pub args : AreShort v.args

pub record SoundLabel (b : LabelTree) : Type 0 where
  pub id : IsShort b.id
  pub preds : AreShort b.preds

pub record SoundEnd (e : EndTree) : Type 0 where
  pub kind : FitsKind e.kind e.control e.succs e.likely
  pub succs : AreShort e.succs

pub record SoundHeader (h : HeaderTree) : Type 0 where
  pub name : IsName h.name
  pub shown : is_skipped h.name ≡ false
  pub args : AllByRecursion IsWordType (map (λ p. p.ty) h.parameters)
  pub results : AllByRecursion IsWordType h.results

abbrev pub Sound : Line → Type 0
Sound (var_line v) = IsName v.name
Sound (func_line h) = SoundHeader h
Sound (block_line b) = SoundLabel b
Sound (value_line v) = SoundValue v
Sound (end_line e) = SoundEnd e

value_sound : (parts : List Part) (v : ValueTree) → IsValueLine parts v → SoundValue v
value_sound parts v h = record {
  id = numbered_short (codes "v") h.id v.id h.numbered;
  op = (name_read h.name v.op h.named.0).0;
  written = h.named.1;
  mentions = mentions (braces_of v.op.family) h.aux v.mention h.mentions;
  squared = squared (square_of v.op.family) (constants_of v.op.family v.op.a) h.int v.int (constants_wide v.op.family v.op.a) h.squared;
  args = all_short (codes "v") h.args v.args h.takes;
}

label_sound : (parts : List Part) (b : LabelTree) → IsBlockLine parts b → SoundLabel b
label_sound parts b (label, behind, n, e, inl (none, q)) = record { id = numbered_short (codes "b") label b.id n; preds = subst AreShort (sym none) tt }
label_sound parts b (label, behind, n, e, inr (arrow, preds, is, are, some, q)) = record { id = numbered_short (codes "b") label b.id n; preds = all_short (codes "b") preds b.preds are }

control_short : (part : Part) (v : ℕ) (c : Option ℕ) → IsNumbered (codes "v") part v → c ≡ Some v → (n : ℕ) × (c ≡ Some n) × IsShort n
control_short part v c n e = (v, e, numbered_short (codes "v") part v n)

end_kind : (k : Kind) (c : Option ℕ) (s : List ℕ) (l : Likely) (control succs : List Part) (inside : List (List ℕ)) → IsControl k control c → AreSuccessors k succs s → l ≡ likely_of k (mark_of inside) → FitsKind k c s l × AreShort s
end_kind Plain c s l control succs inside h (arrow, blocks, is, are, count, q) e = ((h.1, count, e), all_short (codes "b") blocks s are)
end_kind If c s l control succs inside (part, v, q, n, is) (arrow, blocks, a, are, count, r) e = ((control_short part v c n is, count), all_short (codes "b") blocks s are)
end_kind First c s l control succs inside h (arrow, blocks, is, are, count, q) e = ((h.1, count, e), all_short (codes "b") blocks s are)
end_kind Ret c s l control succs inside (part, v, q, n, is) g e = ((control_short part v c n is, g.1, e), subst AreShort (sym g.1) tt)
end_kind Exit c s l control succs inside (part, v, q, n, is) g e = ((control_short part v c n is, g.1, e), subst AreShort (sym g.1) tt)

end_sound : (parts : List Part) (e : EndTree) → IsEndLine parts e → SoundEnd e
end_sound parts e (control, succs, groups, inside, q, c, s, g, l) = let k = end_kind e.kind e.control e.succs e.likely control succs inside c s l in record { kind = k.0; succs = k.1 }

place_word : (name : List ℕ) (ty : Ty) → IsPlaceType name ty → IsWordType ty
place_word name ty (n, inl h) = h.1
place_word name ty (n, inr h) = subst IsWordType (sym h.1) (λ e. cc, λ e. cc, λ e. cc)

parameter_words : (each : List (List Part)) (ps : List ParameterTree) → AllZip IsParameter each ps → AllByRecursion IsWordType (map (λ p. p.ty) ps)
parameter_words [] [] h = tt
parameter_words [] (p ∷ ps) h = absurd h
parameter_words (x ∷ xs) [] h = absurd h
parameter_words (x ∷ xs) (p ∷ ps) h = (place_word h.0.0 p.ty h.0.3, parameter_words xs ps h.1)

place_words : (each : List (List Part)) (ts : List Ty) → AllZip IsPlace each ts → AllByRecursion IsWordType ts
place_words [] [] h = tt
place_words [] (t ∷ ts) h = absurd h
place_words (x ∷ xs) [] h = absurd h
place_words (x ∷ xs) (t ∷ ts) h = (place_word h.0.0 t h.0.2, place_words xs ts h.1)

-- a line that is not skipped begins with no name that is
name_alike : (n rest : List ℕ) → IsName n → BeginsBlank rest → is_skipped (n ++ rest) ≡ false → is_skipped n ≡ false
name_alike n [] name b h = absurd b
name_alike n (c ∷ rest) name b h = sym (named_alike n c rest name b) ∙ h

front_alike : (gap n rest : List ℕ) → AllByRecursion (λ c. is_blank c ≡ true) gap → IsName n → is_skipped (gap ++ (n ++ rest)) ≡ false → is_skipped (n ++ rest) ≡ false
unfolding mark_at
front_alike gap n rest g name h =
    let solid = solid_begins is_name_byte n rest names_solid name.some name.bytes in
    let same : unblanked (gap ++ (n ++ rest)) ≡ unblanked (n ++ rest) = unblanked_over gap (n ++ rest) g solid ∙ sym (unblanked_same (n ++ rest) solid) in
    subst (λ t. ((length t == 0) || is_some (after (codes "#") t) || is_some (after (codes "//") t)) ≡ false) same h

header_shown : (n w : List ℕ) (more : List Part) (text : List ℕ) → IsName n → Lays (word n ∷ (word w ∷ more)) text → is_skipped text ≡ false → is_skipped n ≡ false
header_shown n w more text name (gap, rest, e, g, a, l) h = name_alike n rest name a (front_alike gap n rest g name (subst (λ t. is_skipped t ≡ false) e h))

header_sound : (text : List ℕ) (h : HeaderTree) → Spells IsFuncLine text h → is_skipped text ≡ false → SoundHeader h
header_sound text h (parts, laid, (each, behind, name, ps, (places, are, count), spelled)) shown = record {
  name = name;
  shown = header_shown h.name (codes "func") (mark (codes "(") ∷ (listed each ++ (mark (codes ")") ∷ behind))) text name (subst (λ ps. Lays ps text) spelled laid) shown;
  args = parameter_words each h.parameters ps;
  results = place_words places h.results are;
}

pub sound : (text : List ℕ) (l : Line) → SpellsLine text l → is_skipped text ≡ false → Sound l
sound text (var_line v) s h = s.spelled.2.2
sound text (func_line g) s h = header_sound text g s.spelled h
sound text (block_line b) s h = label_sound s.spelled.0 b s.spelled.2
sound text (value_line v) s h = value_sound s.spelled.0 v s.spelled.2
sound text (end_line e) s h = end_sound s.spelled.0 e s.spelled.2

abbrev shown_lines : List (List ℕ) → List (List ℕ)
shown_lines texts = filter (λ line. not (is_skipped line)) texts

sound_case : (b : Bool) (text : List ℕ) (texts : List (List ℕ)) (ls : List Line) → is_skipped text ≡ b → ((ms : List Line) → AllZip SpellsLine (shown_lines texts) ms → AllByRecursion Sound ms)
    → AllZip SpellsLine (cond (not b) (text ∷ shown_lines texts) (shown_lines texts)) ls → AllByRecursion Sound ls
sound_case true text texts ls e k z = k ls z
sound_case false text texts [] e k z = tt
sound_case false text texts (l ∷ ls) e k z = (sound text l z.0 e, k ls z.1)

pub all_sound : (texts : List (List ℕ)) (ls : List Line) → AllZip SpellsLine (shown_lines texts) ls → AllByRecursion Sound ls
all_sound [] [] z = tt
all_sound [] (l ∷ ls) z = absurd z
all_sound (text ∷ texts) ls z = sound_case (is_skipped text) text texts ls refl (λ ms y. all_sound texts ms y) z

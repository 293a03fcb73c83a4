-- The text of a package spells what the package declares.
use Rattle.std.proofs.Common.{◌≡◌, ℕ, zero, suc, ◌-◌, ◌<◌, ◌≤◌, List, [], ◌∷◌, ◌++◌, length, map, take, drop, ap, ◌∙◌, sym, refl, subst, arith, append_assoc, append-nil, get_or, Bool, true, false, cond, Option, Some, None}
use Rattle.std.specs.Prelude.{codes, ◌==◌, ◌&&◌, ◌||◌, not, nat_lt, All, filter, slice_index}
use Rattle.std.specs.List.{slice_split, AllByRecursion, AllZip}
use Rattle.std.specs.Option.{is_some}
use Rattle.std.proofs.lemmas.Bool.Decides.{nat_tests}
use Rattle.std.proofs.lemmas.List.{length-map}
use Rattle.std.proofs.lemmas.List.Elements.{All-from_recursion}
use Rattle.std.proofs.lemmas.List.Splits.{slice_split_at}
use Rattle.bk_text.specs.Tokens.{is_blank}
use Rattle.bk_func.specs.declared.parts.Kind.{Kind}
use Rattle.bk_func.specs.declared.parts.Kind.TheVariants.{Plain, If, First, Ret, Exit}
use Rattle.bk_func.specs.Records.{ValueRecord, BlockRecord, SigRecord, FuncRecord, VarRecord, PackageRecord}
use Rattle.bk_dump.specs.Front.{unblanked, after, mark_at, is_done}
use Rattle.bk_dump.specs.Words.{is_name_byte}
use Rattle.bk_dump.specs.Parts.{Spells, IsName}
use Rattle.bk_dump.specs.Drafts.{has_control}
use Rattle.bk_dump.specs.Texts.{without_cr, lines_of, lines, is_skipped}
use Rattle.bk_dump_laws.specs.Declarations.{Line, IsLine, var_line, func_line, block_line, end_line, SpellsLine, Declaration, variable, function, lines_of_block, lines_of_blocks, lines_of_all, IsWhole, SpellsAll}
use Rattle.bk_dump_laws.specs.Declarations.{value_line as of_value}
use Rattle.bk_dump.specs.Print.{symbol, label, kind_name, ending, value_lines, block_text, block_texts, header, function_text, variable_line, variable_lines, before, declarations, text_of}
use Rattle.bk_dump_laws.specs.Printed.{value_tree, label_tree, end_tree, block_tree, header_tree, var_tree, var_declaration, func_declaration, declarations_in, declarations_of, FitsValue, FitsBlock, FitsFunc, FitsVar, FitsText}
use Rattle.bk_dump_laws.proofs.Again.{unblanked_same}
use Rattle.bk_dump.proofs.TextLines.{is_lf, lines_more, some_parts}
use Rattle.bk_dump_laws.proofs.Laying.{names_solid, solid_begins}
use Rattle.bk_dump_laws.proofs.Writing.{more_than_none, Solid}
use Rattle.bk_dump_laws.proofs.WrittenValues.{value_text, value_line_is, value_spells}
use Rattle.bk_dump_laws.proofs.WrittenBlocks.{label_text, label_is, label_spells, end_text, end_is, end_spells}
use Rattle.bk_dump_laws.proofs.WrittenHeaders.{header_text, header_is, header_spells}
use Rattle.bk_dump_laws.proofs.WrittenVars.{var_text, var_is, var_spells}

-- Lines of bytes from 32 on are cut out of a text as they are.

solid_at : (text : List ℕ) (i : ℕ) → Solid text → i < length text → 32 ≤ get_or text i 0
solid_at [] i h l = absurd (omega arith)
solid_at (c ∷ text) zero h l = h.0
solid_at (c ∷ text) (suc i) h l = solid_at text i h.1 (omega arith)

no_cr_step : (n c : ℕ) → (0 < n → 32 ≤ c) → (nat_lt 0 n && c == 13) ≡ false
no_cr_step n c h = grind (arith, nat_tests)

keeps_end : (line : List ℕ) → Solid line → without_cr line ≡ line
unfolding without_cr
keeps_end line h =
    ap (λ b. cond b (take (length line - 1) line) line) (no_cr_step (length line) (slice_index line (length line - 1)) (λ l. solid_at line (length line - 1) h (omega arith)))

no_lf_byte : (c : ℕ) → 32 ≤ c → (c == 10) ≡ false
no_lf_byte c h = grind (arith, nat_tests)

lf_at : (line : List ℕ) (k d : ℕ) → Solid line → k < length line → is_lf (get_or line k d) ≡ false
lf_at [] k d h l = absurd (omega arith)
lf_at (c ∷ line) zero d h l = no_lf_byte c h.0
lf_at (c ∷ line) (suc k) d h l = lf_at line k d h.1 (omega arith)

no_lf : (line : List ℕ) → Solid line → All (λ c. is_lf c ≡ false) line
no_lf line h = λ k d l. lf_at line k d h l

-- the first line of a text
line_of : (line rest : List ℕ) → Solid line → lines (line ++ (10 ∷ rest)) ≡ line ∷ lines rest
unfolding lines
line_of line rest h =
    ap lines_of (slice_split_at is_lf line 10 rest (no_lf line h) refl)
    ∙ lines_more line (slice_split is_lf rest) (some_parts rest)
    ∙ ap (λ l. l ∷ lines_of (slice_split is_lf rest)) (keeps_end line h)

no_lines : lines [] ≡ []
unfolding lines lines_of
no_lines = refl

control_step : (c : ℕ) (b : Bool) → 32 ≤ c → b ≡ false → ((nat_lt c 32 && not (c == 9)) || b) ≡ false
control_step c b h e = grind (arith, nat_tests)

no_control : (line : List ℕ) → Solid line → has_control line ≡ false
no_control [] h = refl
no_control (c ∷ line) h = control_step c (has_control line) h.0 (no_control line h.1)

-- Lines that are not skipped.

all_false : (a b c : Bool) → a ≡ false → b ≡ false → c ≡ false → (a || b || c) ≡ false
all_false true b c h g k = absurd (cc)
all_false false true c h g k = absurd (cc)
all_false false false c h g k = k

front_shown : (c : ℕ) (text more : List ℕ) → unblanked text ≡ c ∷ more → (35 == c) ≡ false → (47 == c) ≡ false → is_skipped text ≡ false
unfolding mark_at after
front_shown c text more e h g =
    all_false (is_done text) _ _ (ap (λ t. length t == 0) e ∙ more_than_none (length more))
    (ap (λ t. is_some (after (codes "#") t)) e ∙ ap (λ b. is_some (cond b (Some more) None)) h)
    (ap (λ t. is_some (after (codes "//") t)) e ∙ ap (λ b. is_some (cond b (after (codes "/") more) None)) g)

value_shown : (text : List ℕ) → is_skipped (codes "  v" ++ text) ≡ false
unfolding unblanked
value_shown text = front_shown 118 (codes "  v" ++ text) text refl refl refl

label_shown : (text : List ℕ) → is_skipped (codes "b" ++ text) ≡ false
unfolding unblanked
label_shown text = front_shown 98 (codes "b" ++ text) text refl refl refl

var_shown : (text : List ℕ) → is_skipped (codes "var " ++ text) ≡ false
unfolding unblanked
var_shown text = front_shown 118 (codes "var " ++ text) (codes "ar " ++ text) refl refl refl

end_shown : (k : Kind) (text : List ℕ) → is_skipped (kind_name k ++ text) ≡ false
unfolding unblanked kind_name
end_shown Plain text = front_shown 80 (codes "  Plain" ++ text) (codes "lain" ++ text) refl refl refl
end_shown If text = front_shown 73 (codes "  If" ++ text) (codes "f" ++ text) refl refl refl
end_shown First text = front_shown 70 (codes "  First" ++ text) (codes "irst" ++ text) refl refl refl
end_shown Ret text = front_shown 82 (codes "  Ret" ++ text) (codes "et" ++ text) refl refl refl
end_shown Exit text = front_shown 69 (codes "  Exit" ++ text) (codes "xit" ++ text) refl refl refl

one_byte : {A : Type 0} (b : Bool) (x y : Option A) → is_some x ≡ is_some y → is_some (cond b x None) ≡ is_some (cond b y None)
one_byte true x y h = h
one_byte false x y h = refl

-- a mark without this byte is read in front of the byte where it is read at the end
marked_alike : (d : ℕ) (m text more : List ℕ) → AllByRecursion (λ c. (c == d) ≡ false) m → is_some (after m (text ++ (d ∷ more))) ≡ is_some (after m text)
unfolding after
marked_alike d [] text more h = refl
marked_alike d (c ∷ m) [] more h = ap (λ b. is_some (cond b (after m more) None)) h.0
marked_alike d (c ∷ m) (e ∷ text) more h = one_byte (c == e) (after m (text ++ (d ∷ more))) (after m text) (marked_alike d m text more h.1)

not_empty : (text more : List ℕ) → 0 < length text → (length (text ++ more) == 0) ≡ false
not_empty [] more h = absurd (omega arith)
not_empty (c ∷ text) more h = more_than_none (length (text ++ more))

-- what is tested of a line, behind its blanks
abbrev Skipped : List ℕ → Bool
Skipped text = (length text == 0) || is_some (after (codes "#") text) || is_some (after (codes "//") text)

hash_is : (d : ℕ) → is_blank d ≡ true → (35 == d) ≡ false
hash_is d h = grind (arith, nat_tests)

slash_is : (d : ℕ) → is_blank d ≡ true → (47 == d) ≡ false
slash_is d h = grind (arith, nat_tests)

-- a name stands in a line that is skipped, before a blank, where it is skipped alone
pub named_alike : (n : List ℕ) (d : ℕ) (more : List ℕ) → IsName n → is_blank d ≡ true → is_skipped (n ++ (d ∷ more)) ≡ is_skipped n
unfolding mark_at
named_alike n d more name b =
    let here : unblanked (n ++ (d ∷ more)) ≡ n ++ (d ∷ more) = unblanked_same (n ++ (d ∷ more)) (solid_begins is_name_byte n (d ∷ more) names_solid name.some name.bytes) in
    let alone : n ≡ unblanked n = sym (append-nil n) ∙ sym (unblanked_same (n ++ []) (solid_begins is_name_byte n [] names_solid name.some name.bytes)) ∙ ap unblanked (append-nil n) in
    let some : (length n == 0) ≡ false = ap (λ t. length t == 0) (sym (append-nil n)) ∙ not_empty n [] name.some in
    let hash : (35 == d) ≡ false = hash_is d b in
    let slash : (47 == d) ≡ false = slash_is d b in
    ap Skipped here
    ∙ ap (λ x. x || is_some (after (codes "#") (n ++ (d ∷ more))) || is_some (after (codes "//") (n ++ (d ∷ more)))) (not_empty n (d ∷ more) name.some ∙ sym some)
    ∙ ap (λ x. (length n == 0) || x || is_some (after (codes "//") (n ++ (d ∷ more)))) (marked_alike d (codes "#") n more (hash, tt))
    ∙ ap (λ x. (length n == 0) || is_some (after (codes "#") n) || x) (marked_alike d (codes "//") n more (slash, (slash, tt)))
    ∙ ap Skipped alone

name_shown : (n more : List ℕ) → IsName n → is_skipped n ≡ false → is_skipped (n ++ (32 ∷ more)) ≡ false
name_shown n more name h = named_alike n 32 more name refl ∙ h

-- Texts of lines, each with its LF.

abbrev ended : List (List ℕ) → List ℕ
ended [] = []
ended (text ∷ texts) = text ++ (10 ∷ ended texts)

-- a line that spells this
record IsWritten (text : List ℕ) (line : Line) : Type 0 where
  pub solid : Solid text
  pub shown : is_skipped text ≡ false
  pub spelled : Spells IsLine text line

-- a text of lines that spell these
record Spans (text : List ℕ) (ls : List Line) : Type 0 where
  pub texts : List (List ℕ)
  pub whole : text ≡ ended texts
  pub each : AllZip IsWritten texts ls

nothing : Spans [] []
nothing = record { texts = []; whole = refl; each = tt }

one : (text whole : List ℕ) (line : Line) → whole ≡ text ++ codes "\n" → IsWritten text line → Spans whole (line ∷ [])
one text whole line e w = record { texts = text ∷ []; whole = e; each = (w, tt) }

ended_append : (xs ys : List (List ℕ)) → ended xs ++ ended ys ≡ ended (xs ++ ys)
ended_append [] ys = refl
ended_append (x ∷ xs) ys = append_assoc x (10 ∷ ended xs) (ended ys) ∙ ap (λ t. x ++ (10 ∷ t)) (ended_append xs ys)

zip_append : (xs ys : List (List ℕ)) (ls ms : List Line) → AllZip IsWritten xs ls → AllZip IsWritten ys ms → AllZip IsWritten (xs ++ ys) (ls ++ ms)
zip_append [] ys [] ms h g = g
zip_append [] ys (l ∷ ls) ms h g = absurd h
zip_append (x ∷ xs) ys [] ms h g = absurd h
zip_append (x ∷ xs) ys (l ∷ ls) ms h g = (h.0, zip_append xs ys ls ms h.1 g)

both : (a b : List ℕ) (ls ms : List Line) → Spans a ls → Spans b ms → Spans (a ++ b) (ls ++ ms)
both a b ls ms x y = record {
  texts = x.texts ++ y.texts;
  whole = ap (λ t. t ++ b) x.whole ∙ ap (λ t. ended x.texts ++ t) y.whole ∙ ended_append x.texts y.texts;
  each = zip_append x.texts y.texts ls ms x.each y.each;
}

lines_ended : (texts : List (List ℕ)) (ls : List Line) → AllZip IsWritten texts ls → lines (ended texts) ≡ texts
lines_ended [] ls h = no_lines
lines_ended (text ∷ texts) [] h = absurd h
lines_ended (text ∷ texts) (l ∷ ls) h = line_of text (ended texts) h.0.solid ∙ ap (λ ts. text ∷ ts) (lines_ended texts ls h.1)

abbrev kept : List (List ℕ) → List (List ℕ)
kept texts = filter (λ line. not (is_skipped line)) texts

spells_line : (text : List ℕ) (line : Line) → IsWritten text line → SpellsLine text line
spells_line text line w = record { clean = no_control text w.solid; spelled = w.spelled }

keeps_all : (texts : List (List ℕ)) (ls : List Line) → AllZip IsWritten texts ls → AllZip SpellsLine (kept texts) ls
keeps_all [] [] h = tt
keeps_all [] (l ∷ ls) h = absurd h
keeps_all (text ∷ texts) [] h = absurd h
keeps_all (text ∷ texts) (l ∷ ls) h =
    subst (λ b. AllZip SpellsLine (cond (not b) (text ∷ kept texts) (kept texts)) (l ∷ ls)) (sym h.0.shown) (spells_line text l h.0, keeps_all texts ls h.1)

spells_all : (text : List ℕ) (ls : List Line) → Spans text ls → AllZip SpellsLine (kept (lines text)) ls
spells_all text ls x =
    subst (λ ts. AllZip SpellsLine (kept ts) ls) (sym (ap lines x.whole ∙ lines_ended x.texts ls x.each)) (keeps_all x.texts ls x.each)

-- Blocks.

value_written : (p : PackageRecord) (s : SigRecord) (v : ValueRecord) → FitsValue p s v → IsWritten (value_text p s v) (of_value (value_tree p.names v))
value_written p s v h = let w = value_spells p s v h in record { solid = w.1; shown = value_shown _; spelled = w.0 }

values_span : (p : PackageRecord) (s : SigRecord) (vs : List ValueRecord) → AllByRecursion (FitsValue p s) vs → Spans (value_lines p s vs) (map of_value (map (value_tree p.names) vs))
unfolding value_lines
values_span p s [] h = nothing
values_span p s (v ∷ vs) h =
    both _ _ (of_value (value_tree p.names v) ∷ []) (map of_value (map (value_tree p.names) vs)) (one (value_text p s v) _ (of_value (value_tree p.names v)) (value_line_is p s v) (value_written p s v h.0)) (values_span p s vs h.1)

label_written : (b : BlockRecord) (p : PackageRecord) (s : SigRecord) → FitsBlock p s b → IsWritten (label_text b) (block_line (label_tree b))
label_written b p s h = let w = label_spells b h.id h.preds in record { solid = w.1; shown = label_shown _; spelled = w.0 }

end_written : (b : BlockRecord) (p : PackageRecord) (s : SigRecord) → FitsBlock p s b → IsWritten (end_text b) (end_line (end_tree b))
end_written b p s h = let w = end_spells b h.kind h.succs in record { solid = w.1; shown = end_shown b.kind _; spelled = w.0 }

block_spans : (p : PackageRecord) (s : SigRecord) (b : BlockRecord) → FitsBlock p s b → Spans (block_text p s b) (lines_of_block (block_tree p.names b))
unfolding block_text
block_spans p s b h =
    let ends = one (end_text b) (ending b) (end_line (end_tree b)) (end_is b) (end_written b p s h) in
    let opens = one (label_text b) (label b) (block_line (label_tree b)) (label_is b) (label_written b p s h) in
    let trees = map of_value (map (value_tree p.names) b.values) in
    both (label b) (value_lines p s b.values ++ ending b) (block_line (label_tree b) ∷ []) (trees ++ end_line (end_tree b) ∷ []) opens
    (both (value_lines p s b.values) (ending b) trees (end_line (end_tree b) ∷ []) (values_span p s b.values h.values) ends)

blocks_span : (p : PackageRecord) (s : SigRecord) (bs : List BlockRecord) → AllByRecursion (FitsBlock p s) bs → Spans (block_texts p s bs) (lines_of_blocks (map (block_tree p.names) bs))
unfolding block_texts
blocks_span p s [] h = nothing
blocks_span p s (b ∷ bs) h = both (block_text p s b) (block_texts p s bs) (lines_of_block (block_tree p.names b)) (lines_of_blocks (map (block_tree p.names) bs)) (block_spans p s b h.0) (blocks_span p s bs h.1)

-- Functions and variables.

header_written : (p : PackageRecord) (f : FuncRecord) → FitsFunc p f → IsWritten (header_text (symbol p.names f.name) f.sig) (func_line (header_tree p.names f))
header_written p f h = let w = header_spells p f h in record { solid = w.1; shown = name_shown (symbol p.names f.name) _ h.name h.shown; spelled = w.0 }

func_spans : (p : PackageRecord) (f : FuncRecord) → FitsFunc p f → Spans (function_text p f) (func_line (header_tree p.names f) ∷ lines_of_blocks (map (block_tree p.names) f.blocks))
unfolding function_text
func_spans p f h =
    let name = symbol p.names f.name in
    both (header name f.sig) (block_texts p f.sig f.blocks) (func_line (header_tree p.names f) ∷ []) (lines_of_blocks (map (block_tree p.names) f.blocks))
    (one (header_text name f.sig) (header name f.sig) (func_line (header_tree p.names f)) (header_is name f.sig) (header_written p f h)) (blocks_span p f.sig f.blocks h.blocks)

var_written : (names : List (List ℕ)) (v : VarRecord) → FitsVar names v → IsWritten (var_text (symbol names v.name) v) (var_line (var_tree names v))
var_written names v h = let w = var_spells names v h in record { solid = w.1; shown = var_shown _; spelled = w.0 }

vars_span : (names : List (List ℕ)) (vs : List VarRecord) → AllByRecursion (FitsVar names) vs → Spans (variable_lines names vs) (lines_of_all (map (var_declaration names) vs))
unfolding variable_lines
vars_span names [] h = nothing
vars_span names (v ∷ vs) h =
    both (variable_line names v) (variable_lines names vs) (var_line (var_tree names v) ∷ []) (lines_of_all (map (var_declaration names) vs))
    (one (var_text (symbol names v.name) v) (variable_line names v) (var_line (var_tree names v)) (var_is names v) (var_written names v h.0)) (vars_span names vs h.1)

-- Declarations.

lines_append : (xs ys : List Declaration) → lines_of_all xs ++ lines_of_all ys ≡ lines_of_all (xs ++ ys)
lines_append [] ys = refl
lines_append ((variable v) ∷ xs) ys = ap (λ ls. var_line v ∷ ls) (lines_append xs ys)
lines_append ((function h bs) ∷ xs) ys = ap (λ ls. func_line h ∷ ls) (append_assoc (lines_of_blocks bs) (lines_of_all xs) (lines_of_all ys) ∙ ap (λ ls. lines_of_blocks bs ++ ls) (lines_append xs ys))

pub take_each : {A : Type 0} (P : A → Type 0) (n : ℕ) (xs : List A) → AllByRecursion P xs → AllByRecursion P (take n xs)
take_each P zero xs h = tt
take_each P (suc n) [] h = tt
take_each P (suc n) (x ∷ xs) h = (h.0, take_each P n xs h.1)

drop_each : {A : Type 0} (P : A → Type 0) (n : ℕ) (xs : List A) → AllByRecursion P xs → AllByRecursion P (drop n xs)
drop_each P zero xs h = h
drop_each P (suc n) [] h = tt
drop_each P (suc n) (x ∷ xs) h = drop_each P n xs h.1

all_span : (p : PackageRecord) (fs : List FuncRecord) (vs : List VarRecord) → AllByRecursion (FitsFunc p) fs → AllByRecursion (FitsVar p.names) vs → Spans (declarations p fs vs) (lines_of_all (declarations_in p.names fs vs))
unfolding declarations
all_span p [] vs h g = vars_span p.names vs g
all_span p (f ∷ fs) vs h g =
    let k = before f.name vs in
    let first = map (var_declaration p.names) (take k vs) in
    let rest = declarations_in p.names fs (drop k vs) in
    let func = func_line (header_tree p.names f) ∷ lines_of_blocks (map (block_tree p.names) f.blocks) in
    subst (Spans (variable_lines p.names (take k vs) ++ (function_text p f ++ declarations p fs (drop k vs)))) (lines_append first (func_declaration p.names f ∷ rest))
    (both (variable_lines p.names (take k vs)) (function_text p f ++ declarations p fs (drop k vs)) (lines_of_all first) (func ++ lines_of_all rest)
    (vars_span p.names (take k vs) (take_each (FitsVar p.names) k vs g))
    (both (function_text p f) (declarations p fs (drop k vs)) func (lines_of_all rest) (func_spans p f h.0) (all_span p fs (drop k vs) h.1 (drop_each (FitsVar p.names) k vs g))))

whole_vars : (names : List (List ℕ)) (vs : List VarRecord) (ds : List Declaration) → AllByRecursion IsWhole ds → AllByRecursion IsWhole (map (var_declaration names) vs ++ ds)
whole_vars names [] ds h = h
whole_vars names (v ∷ vs) ds h = (tt, whole_vars names vs ds h)

whole_all : (p : PackageRecord) (fs : List FuncRecord) (vs : List VarRecord) → AllByRecursion (FitsFunc p) fs → AllByRecursion IsWhole (declarations_in p.names fs vs)
whole_all p [] vs h = subst (AllByRecursion IsWhole) (append-nil (map (var_declaration p.names) vs)) (whole_vars p.names vs [] tt)
whole_all p (f ∷ fs) vs h =
    whole_vars p.names (take (before f.name vs) vs) _ (omega (arith, length-map f.blocks (block_tree p.names), h.0.some), whole_all p fs (drop (before f.name vs) vs) h.1)

pub written : (p : PackageRecord) → FitsText p → SpellsAll (text_of p) (declarations_of p)
unfolding text_of
written p h = record {
  whole = All-from_recursion IsWhole (declarations_of p) (whole_all p p.funcs p.vars h.funcs);
  lines = spells_all (text_of p) (lines_of_all (declarations_of p)) (all_span p p.funcs p.vars h.funcs h.vars);
}

-- A package that a text reads as, its functions in form, is one whose own text spells what it declares.
use Rattle.std.proofs.Common.{◌≡◌, ℕ, zero, suc, ◌+◌, ◌-◌, ◌^◌, ◌<◌, ◌≤◌, List, [], ◌∷◌, ◌++◌, length, map, take, replicate, ap, ◌∙◌, sym, refl, subst, arith, append_assoc, Bool, true, false, cond, Option, Some, None, inl, inr}
use Rattle.std.specs.Prelude.{Ok, codes, ◌==◌, All, Contains, slice_index_or}
use Rattle.std.specs.List.{AllByRecursion, AllZip}
use Rattle.std.specs.Option.{option_map}
use Rattle.std.specs.Str.{bytes_eq}
use Rattle.std.proofs.lemmas.Bool.Decides.{nat_tests}
use Rattle.std.proofs.lemmas.List.{length-append, length-map}
use Rattle.std.proofs.lemmas.List.Elements.{recursion_from_All}
use Rattle.std.proofs.lemmas.List.Quantifiers.{position-Some}
use Rattle.bk_ops.specs.declared.family.Family.{Family}
use Rattle.bk_ops.specs.declared.family.Family.TheVariants as family
use Rattle.bk_ops.specs.declared.types.Target.{Target}
use Rattle.bk_ops.specs.declared.types.Ty.{Ty}
use Rattle.bk_func.specs.declared.parts.Aux.{Aux}
use Rattle.bk_func.specs.declared.parts.Aux.TheVariants as aux
use Rattle.bk_func.specs.Records.{ValueRecord, BlockRecord, SigRecord, FuncRecord, PackageRecord}
use Rattle.bk_func.specs.Form.{IsInForm, strict}
use Rattle.bk_dump.specs.declared.read.draft.Stage.{Stage}
use Rattle.bk_dump.specs.declared.read.draft.Stage.TheVariants.{Between, Function, Block}
use Rattle.bk_dump.specs.Words.{is_name_byte}
use Rattle.bk_dump.specs.Parts.{IsName}
use Rattle.bk_dump.specs.Trees.{MentionTree, ValueTree, EndTree, VarTree, HeaderTree, BlockTree, FuncTree, no_mention, of_type, of_name}
use Rattle.bk_dump.specs.Values.{braces_of}
use Rattle.bk_dump.specs.Drafts.{State, hex_value, pairs, padded, var_fault, with_var, declare_var, closed, has_block, divide_name, shift_name, at_start}
use Rattle.bk_dump.specs.Resolved.{Scope, scope_of, place_of, symbol_of, aux_of, or_name, looked_up, value_of, each, block_of, func_of}
use Rattle.bk_dump.specs.Texts.{lines, is_skipped, reading}
use Rattle.bk_dump_laws.specs.Declarations.{Line, var_line, func_line, block_line, value_line, end_line, Declaration, variable, function, lines_of_block, lines_of_blocks, lines_of_all, IsWhole, names_of_all, declared_func, declared_var, funcs_from, vars_from}
use Rattle.bk_dump.specs.Print.{symbol}
use Rattle.bk_dump_laws.specs.Printed.{FitsBraces, FitsValue, FitsBlock, FitsFunc, FitsVar, FitsText}
use Rattle.bk_dump.specs.Views.{IsFormed}
use Rattle.bk_dump.proofs.Runs.{ascii_named}
use Rattle.bk_dump.proofs.Faults.{var_fits}
use Rattle.bk_dump_laws.proofs.Running.{line_at, run, text_declares}
use Rattle.bk_dump_laws.proofs.Steps.{unless_none, guarded, went_on}
use Rattle.bk_dump_laws.proofs.Naming.{func_is, each_is, package_made, text_is_named, IsShortFunc, text_is_short}
use Rattle.bk_dump_laws.proofs.Rereading.{value_is, block_is}
use Rattle.bk_dump_laws.proofs.WrittenTexts.{take_each}
use Rattle.bk_dump_laws.proofs.Sounding.{Mentions, SoundValue, SoundLabel, SoundEnd, SoundHeader, Sound, all_sound}
use Rattle.bk_dump_laws.proofs.FormedTypes.{Formed, formed, AreWords, WordResults, types_listed}

-- Facts of lists.

front_each : {A : Type 0} (P : A → Type 0) (xs ys : List A) → AllByRecursion P (xs ++ ys) → AllByRecursion P xs
front_each P [] ys h = tt
front_each P (x ∷ xs) ys h = (h.0, front_each P xs ys h.1)

behind_each : {A : Type 0} (P : A → Type 0) (xs ys : List A) → AllByRecursion P (xs ++ ys) → AllByRecursion P ys
behind_each P [] ys h = h
behind_each P (x ∷ xs) ys h = behind_each P xs ys h.1

append_each : {A : Type 0} (P : A → Type 0) (xs ys : List A) → AllByRecursion P xs → AllByRecursion P ys → AllByRecursion P (xs ++ ys)
append_each P [] ys h g = g
append_each P (x ∷ xs) ys h g = (h.0, append_each P xs ys h.1 g)

same_each : {A : Type 0} (P : A → Type 0) (x : A) (n : ℕ) → P x → AllByRecursion P (replicate n x)
same_each P x zero h = tt
same_each P x (suc n) h = (h, same_each P x n h)

contained_each : {A : Type 0} (P : A → Type 0) (xs : List A) → ((x : A) → Contains xs x → P x) → AllByRecursion P xs
contained_each P [] h = tt
contained_each P (x ∷ xs) h = (h x (0, omega arith, refl), contained_each P xs (λ y c. h y (suc c.0, (let l = c.1 in omega arith), c.2)))

zip_each : {A B : Type 0} (R : A → B → Type 0) (P : A → Type 0) (Q S : B → Type 0) (xs : List A) (ys : List B) → ((x : A) (y : B) → R x y → P x → Q y → S y) → AllZip R xs ys → AllByRecursion P xs → AllByRecursion Q ys → AllByRecursion S ys
zip_each R P Q S [] [] f z h g = tt
zip_each R P Q S [] (y ∷ ys) f z h g = absurd z
zip_each R P Q S (x ∷ xs) [] f z h g = absurd z
zip_each R P Q S (x ∷ xs) (y ∷ ys) f z h g = (f x y z.0 h.0 g.0, zip_each R P Q S xs ys f z.1 h.1 g.1)

-- Blocks of sound lines.

abbrev SoundBlock : BlockTree → Type 0
SoundBlock b = SoundLabel b.label × AllByRecursion SoundValue b.values × SoundEnd b.end

values_sound : (vs : List ValueTree) (e : EndTree) → AllByRecursion Sound (map value_line vs ++ end_line e ∷ []) → AllByRecursion SoundValue vs × SoundEnd e
values_sound [] e h = (tt, h.0)
values_sound (v ∷ vs) e h = let more = values_sound vs e h.1 in ((h.0, more.0), more.1)

block_sound : (b : BlockTree) → AllByRecursion Sound (lines_of_block b) → SoundBlock b
block_sound b h = let more = values_sound b.values b.end h.1 in (h.0, more.0, more.1)

blocks_sound : (bs : List BlockTree) → AllByRecursion Sound (lines_of_blocks bs) → AllByRecursion SoundBlock bs
blocks_sound [] h = tt
blocks_sound (b ∷ bs) h = (block_sound b (front_each Sound (lines_of_block b) (lines_of_blocks bs) h), blocks_sound bs (behind_each Sound (lines_of_block b) (lines_of_blocks bs) h))

-- Variables that were declared are small.

abbrev Small : Line → Type 0
Small (var_line v) = v.size < 2 ^ 64
Small (func_line h) = Unit {0}
Small (block_line b) = Unit {0}
Small (value_line v) = Unit {0}
Small (end_line e) = Unit {0}

var_small : (s t : State) (v : VarTree) → declare_var s v ≡ Ok t → v.size < 2 ^ 64
var_small s t v g = let l = var_fits s v (unless_none (var_fault s v) (with_var s v) t g) in omega arith

line_small : (s t : State) (x : Stage) (l : Line) → line_at s x l ≡ Ok t → Small l
line_small s t Between (var_line v) g = var_small s t v g
line_small s t (Function f) (var_line v) g = var_small (closed s f) t v (guarded (has_block f) (declare_var (closed s f) v) t g)
line_small s t (Block f b) (var_line v) g = absurd (cc)
line_small s t x (func_line h) g = tt
line_small s t x (block_line b) g = tt
line_small s t x (value_line v) g = tt
line_small s t x (end_line e) g = tt

run_small : (s t : State) (ls : List Line) → run s ls ≡ Ok t → AllByRecursion Small ls
unfolding run
run_small s t [] g = tt
run_small s t (l ∷ ls) g = let u = went_on (line_at s s.stage l) (λ u. run u ls) t g in (line_small s u.0 s.stage l u.1, run_small u.0 t ls u.2)

-- Bytes.

half : (c : ℕ) → hex_value c < 16
half c = grind (arith, nat_tests)

pairs_are_bytes : (text : List ℕ) → AllByRecursion (λ b. b < 2 ^ 8) (pairs text)
unfolding pairs
pairs_are_bytes [] = tt
pairs_are_bytes (high ∷ []) = tt
pairs_are_bytes (high ∷ low ∷ more) = (omega (arith, half high, half low), pairs_are_bytes more)

padded_bytes : (size : ℕ) (bytes : List ℕ) → AllByRecursion (λ b. b < 2 ^ 8) bytes → AllByRecursion (λ b. b < 2 ^ 8) (padded size bytes)
padded_bytes size bytes h =
    append_each (λ b. b < 2 ^ 8) (take size bytes) (replicate (size - length bytes) 0) (take_each (λ b. b < 2 ^ 8) size bytes h) (same_each (λ b. b < 2 ^ 8) 0 (size - length bytes) (omega arith))

-- The name at a place.

at_front : (pre post : List (List ℕ)) (name : List ℕ) → slice_index_or (pre ++ name ∷ post) (length pre) [] ≡ name
at_front [] post name = refl
at_front (n ∷ pre) post name = at_front pre post name

not_reserved : (n : ℕ) → n < 8192 → ((n == 4294967294) ≡ false) × ((n == 4294967295) ≡ false)
not_reserved n h = (grind (arith, nat_tests), grind (arith, nat_tests))

symbol_is : (names : List (List ℕ)) (n : ℕ) → n < 8192 → symbol names n ≡ slice_index_or names n []
unfolding symbol
symbol_is names n h =
    let q = not_reserved n h in
    ap (λ b. cond b (codes "runtime.panicdivide") (cond (n == 4294967295) (codes "runtime.panicshift") (slice_index_or names n []))) q.0
    ∙ ap (λ b. cond b (codes "runtime.panicshift") (slice_index_or names n [])) q.1

symbol_at : (pre post : List (List ℕ)) (name : List ℕ) (n : ℕ) → n ≡ length pre → n < 8192 → name ≡ symbol (pre ++ name ∷ post) n
symbol_at pre post name n e h = sym (symbol_is (pre ++ name ∷ post) n h ∙ ap (λ k. slice_index_or (pre ++ name ∷ post) k []) e ∙ at_front pre post name)

-- What declarations declare.

record SoundFunc (names : List (List ℕ)) (f : FuncTree) : Type 0 where
  pub name : IsName (symbol names f.name)
  pub shown : is_skipped (symbol names f.name) ≡ false
  pub counted : length f.parameters ≡ length f.sig.args
  pub args : AreWords f.sig.args
  pub results : AreWords f.sig.results
  pub some : 0 < length f.blocks
  pub blocks : AllByRecursion SoundBlock f.blocks

func_sound : (names : List (List ℕ)) (n : ℕ) (h : HeaderTree) (bs : List BlockTree) → h.name ≡ symbol names n → SoundHeader h → 0 < length bs → AllByRecursion SoundBlock bs → SoundFunc names (declared_func n h bs)
func_sound names n h bs e k l b = record {
  name = subst IsName e k.name;
  shown = subst (λ t. is_skipped t ≡ false) e k.shown;
  counted = length-map h.parameters (λ p. p.name) ∙ sym (length-map h.parameters (λ p. p.ty));
  args = k.args;
  results = k.results;
  some = l;
  blocks = b;
}

next_names : (pre : List (List ℕ)) (name : List ℕ) (n : ℕ) → n ≡ length pre → suc n ≡ length (pre ++ name ∷ [])
next_names pre name n e = omega (arith, e, length-append pre (name ∷ []))

funcs_sound : (pre : List (List ℕ)) (ds : List Declaration) (n : ℕ) → n ≡ length pre → n + length (names_of_all ds) ≤ 8192 → AllByRecursion IsWhole ds → AllByRecursion Sound (lines_of_all ds) → AllByRecursion (SoundFunc (pre ++ names_of_all ds)) (funcs_from n ds)
funcs_sound pre [] n e l w h = tt
funcs_sound pre ((variable v) ∷ ds) n e l w h =
    subst (λ ns. AllByRecursion (SoundFunc ns) (funcs_from (suc n) ds)) (append_assoc pre (v.name ∷ []) (names_of_all ds)) (funcs_sound (pre ++ v.name ∷ []) ds (suc n) (next_names pre v.name n e) (omega arith) w.1 h.1)
funcs_sound pre ((function g bs) ∷ ds) n e l w h =
    let blocks = lines_of_blocks bs in (
      func_sound (pre ++ g.name ∷ names_of_all ds) n g bs (symbol_at pre (names_of_all ds) g.name n e (omega arith)) h.0 w.0 (blocks_sound bs (front_each Sound blocks (lines_of_all ds) h.1)),
      subst (λ ns. AllByRecursion (SoundFunc ns) (funcs_from (suc n) ds)) (append_assoc pre (g.name ∷ []) (names_of_all ds))
          (funcs_sound (pre ++ g.name ∷ []) ds (suc n) (next_names pre g.name n e) (omega arith) w.1 (behind_each Sound blocks (lines_of_all ds) h.1)),
    )

var_fits_line : (names : List (List ℕ)) (n : ℕ) (v : VarTree) → v.name ≡ symbol names n → IsName v.name → v.size < 2 ^ 64 → FitsVar names (declared_var n v)
var_fits_line names n v e h l = record { name = subst IsName e h; size = l; bytes = padded_bytes v.size (pairs v.hex) (pairs_are_bytes v.hex) }

vars_fit : (pre : List (List ℕ)) (ds : List Declaration) (n : ℕ) → n ≡ length pre → n + length (names_of_all ds) ≤ 8192 → AllByRecursion Sound (lines_of_all ds) → AllByRecursion Small (lines_of_all ds) → AllByRecursion (FitsVar (pre ++ names_of_all ds)) (vars_from n ds)
vars_fit pre [] n e l h g = tt
vars_fit pre ((variable v) ∷ ds) n e l h g = (
  var_fits_line (pre ++ v.name ∷ names_of_all ds) n v (symbol_at pre (names_of_all ds) v.name n e (omega arith)) h.0 g.0,
  subst (λ ns. AllByRecursion (FitsVar ns) (vars_from (suc n) ds)) (append_assoc pre (v.name ∷ []) (names_of_all ds)) (vars_fit (pre ++ v.name ∷ []) ds (suc n) (next_names pre v.name n e) (omega arith) h.1 g.1),
)
vars_fit pre ((function f bs) ∷ ds) n e l h g =
    subst (λ ns. AllByRecursion (FitsVar ns) (vars_from (suc n) ds)) (append_assoc pre (f.name ∷ []) (names_of_all ds))
    (vars_fit (pre ++ f.name ∷ []) ds (suc n) (next_names pre f.name n e) (omega arith) (behind_each Sound (lines_of_blocks bs) (lines_of_all ds) h.1) (behind_each Small (lines_of_blocks bs) (lines_of_all ds) g.1))

-- References.

divide_named : IsName (codes "runtime.panicdivide")
unfolding is_name_byte
divide_named = ascii_named is_name_byte (codes "runtime.panicdivide") (omega arith) refl refl

shift_named : IsName (codes "runtime.panicshift")
unfolding is_name_byte
shift_named = ascii_named is_name_byte (codes "runtime.panicshift") (omega arith) refl refl

named_symbol : (names : List (List ℕ)) (n : ℕ) → n < 8192 → n < length names → All IsName names → IsName (symbol names n)
named_symbol names n l h all = subst IsName (sym (symbol_is names n l)) (all n [] h)

divide_symbol : (names : List (List ℕ)) → IsName (symbol names 4294967294)
unfolding symbol
divide_symbol names = divide_named

shift_symbol : (names : List (List ℕ)) → IsName (symbol names 4294967295)
unfolding symbol
shift_symbol names = shift_named

-- what a name stands for
abbrev NamesSymbol : List (List ℕ) → Aux → Type 0
NamesSymbol names x = (n : ℕ) × (x ≡ aux.Sym n) × IsName (symbol names n)

placed : (names : List (List ℕ)) (name : List ℕ) (n : ℕ) → place_of names name ≡ Some n → n < length names
placed names name n h = (position-Some (λ m. bytes_eq name m) names n [] h).0

symbol_case : (names : List (List ℕ)) (name : List ℕ) (x : Aux) (o : Option ℕ) → place_of names name ≡ o → All IsName names → length names ≤ 8192 → or_name name (option_map aux.Sym o) ≡ Ok x → NamesSymbol names x
symbol_case names name x None e all l h = absurd (cc)
symbol_case names name x (Some n) e all l h =
    let k = placed names name n e in
    let same : aux.Sym n ≡ x = cc in
    (n, sym same, named_symbol names n (omega arith) k all)

symbol_found : (names : List (List ℕ)) (name : List ℕ) (x : Aux) → All IsName names → length names ≤ 8192 → or_name name (symbol_of names name) ≡ Ok x → NamesSymbol names x
symbol_found names name x all l h = symbol_case names name x (place_of names name) refl all l h

argument_case : (parameters : List (List ℕ)) (name : List ℕ) (x : Aux) (o : Option ℕ) → place_of parameters name ≡ o → length parameters < 2 ^ 64 → or_name name (option_map aux.Arg o) ≡ Ok x → (k : ℕ) × (x ≡ aux.Arg k) × (k < 2 ^ 64)
argument_case parameters name x None e l h = absurd (cc)
argument_case parameters name x (Some k) e l h =
    let m = placed parameters name k e in
    let same : aux.Arg k ≡ x = cc in
    (k, sym same, omega arith)

callee_case : (names : List (List ℕ)) (name : List ℕ) (x : Aux) (b c : Bool) → All IsName names → length names ≤ 8192 → or_name name (cond b (Some (aux.Sym 4294967294)) (cond c (Some (aux.Sym 4294967295)) (symbol_of names name))) ≡ Ok x → NamesSymbol names x
callee_case names name x true c all l h = let same : aux.Sym 4294967294 ≡ x = cc in (4294967294, sym same, divide_symbol names)
callee_case names name x false true all l h = let same : aux.Sym 4294967295 ≡ x = cc in (4294967295, sym same, shift_symbol names)
callee_case names name x false false all l h = symbol_found names name x all l h

-- what a function's references may name
record Known (names : List (List ℕ)) (s : Scope) : Type 0 where
  pub same : s.names ≡ names
  pub few : length s.parameters < 2 ^ 64
  pub all : All IsName s.names
  pub short : length s.names ≤ 8192

nothing_is : (s : Scope) (f : Family) (m : MentionTree) (x : Aux) → m ≡ no_mention → looked_up s f m ≡ Ok x → x ≡ aux.Nothing
unfolding looked_up
nothing_is s f m x e h = let q : looked_up s f no_mention ≡ Ok x = subst (λ m. looked_up s f m ≡ Ok x) e h in cc

type_is : (s : Scope) (f : Family) (m : MentionTree) (t : Ty) (x : Aux) → m ≡ of_type t → looked_up s f m ≡ Ok x → x ≡ aux.Ty t
unfolding looked_up
type_is s f m t x e h = let q : looked_up s f (of_type t) ≡ Ok x = subst (λ m. looked_up s f m ≡ Ok x) e h in cc

name_is : (s : Scope) (f : Family) (m : MentionTree) (name : List ℕ) (x : Aux) → m ≡ of_name name → looked_up s f m ≡ Ok x → or_name name (aux_of s f name) ≡ Ok x
unfolding looked_up
name_is s f m name x e h = subst (λ m. looked_up s f m ≡ Ok x) e h

braces_fit : (s : Scope) (f : Family) (m : MentionTree) (x : Aux) → Known s.names s → Mentions (braces_of f) m → looked_up s f m ≡ Ok x → FitsBraces s.names (braces_of f) x
unfolding braces_of aux_of
braces_fit s family.Arg m x k (name, e) h = inr (argument_case s.parameters name x (place_of s.parameters name) refl k.few (name_is s family.Arg m name x e h))
braces_fit s family.Addr m x k (name, e) h = inl (symbol_found s.names name x k.all k.short (name_is s family.Addr m name x e h))
braces_fit s family.StaticLECall m x k (name, e) h = callee_case s.names name x (bytes_eq name divide_name) (bytes_eq name shift_name) k.all k.short (name_is s family.StaticLECall m name x e h)
braces_fit s family.Store m x k (t, e, single) h = (t, type_is s family.Store m t x e h, single)
braces_fit s f m x k e h = nothing_is s f m x e h

-- Values.

no_mention_at : (names : List (List ℕ)) (f : Family) (x : Aux) → FitsBraces names (braces_of f) x → f ≡ family.MakeResult → x ≡ aux.Nothing
unfolding braces_of
no_mention_at names f x h e = subst (λ f. FitsBraces names (braces_of f) x) e h

record Around (p : PackageRecord) (f : FuncRecord) (s : Scope) : Type 0 where
  pub known : Known p.names s
  pub words : AllByRecursion WordResults p.funcs
  pub own : WordResults f

value_fits : (p : PackageRecord) (f : FuncRecord) (t : Target) (s : Scope) (v : ValueTree) (r : ValueRecord) → Around p f s → value_of s v ≡ Ok r → SoundValue v → Formed (strict p t) f r → FitsValue p f.sig r
value_fits p f t s v r a h k m =
    let i = value_is s v r h in
    let known : Known s.names s = record { same = refl; few = a.known.few; all = a.known.all; short = a.known.short } in
    let braced = subst (λ ns. FitsBraces ns (braces_of v.op.family) r.aux) a.known.same (braces_fit s v.op.family v.mention r.aux known k.mentions i.found) in
    let made : ValueRecord = record { id = v.id; op = v.op; ty = v.ty; args = v.args; int = v.int; aux = r.aux } in
    subst (FitsValue p f.sig) i.made (record {
      id = k.id;
      op = k.op;
      written = k.written;
      typed = types_listed p t f made (subst (Formed (strict p t) f) (sym i.made) m) k.written (no_mention_at p.names v.op.family r.aux braced) a.words a.own;
      braced = braced;
      squared = k.squared;
      args = k.args;
    })

abbrev FormedBlock : PackageRecord → Target → FuncRecord → BlockRecord → Type 0
FormedBlock p t f b = AllByRecursion (Formed (strict p t) f) b.values

block_fits : (p : PackageRecord) (f : FuncRecord) (t : Target) (s : Scope) (b : BlockTree) (r : BlockRecord) → Around p f s → block_of s b ≡ Ok r → SoundBlock b → FormedBlock p t f r → FitsBlock p f.sig r
block_fits p f t s b r a h k m =
    let i = block_is s b r h in
    let values = zip_each (λ v r. value_of s v ≡ Ok r) SoundValue (Formed (strict p t) f) (FitsValue p f.sig) b.values r.values (λ v r e g n. value_fits p f t s v r a e g n) (each_is (value_of s) b.values r.values i.values) k.1 m in
    subst (FitsBlock p f.sig) i.made (record { id = k.0.id; preds = k.0.preds; values = values; kind = k.2.kind; succs = k.2.succs })

blocks_formed : (p : PackageRecord) (f : FuncRecord) (t : Target) → IsInForm p f t → AllByRecursion (FormedBlock p t f) f.blocks
blocks_formed p f t h = contained_each (FormedBlock p t f) f.blocks (λ b c. contained_each (Formed (strict p t) f) b.values (λ v d. formed p f t b v h c d))

-- Functions.

some_zip : {A B : Type 0} (R : A → B → Type 0) (xs : List A) (ys : List B) → AllZip R xs ys → 0 < length xs → 0 < length ys
some_zip R [] ys z h = absurd (omega arith)
some_zip R (x ∷ xs) [] z h = absurd z
some_zip R (x ∷ xs) (y ∷ ys) z h = omega arith

func_fits : (p : PackageRecord) (t : Target) (f : FuncTree) (g : FuncRecord) → All IsName p.names → length p.names ≤ 8192 → AllByRecursion WordResults p.funcs → func_of p.names f ≡ Ok g → SoundFunc p.names f → IsInForm p g t × IsShortFunc g → FitsFunc p g
func_fits p t f g all short words h k m =
    let i = func_is p.names f g h in
    let zip = each_is (block_of (scope_of p.names f)) f.blocks g.blocks i.blocks in
    let count : length g.sig.args ≡ length f.sig.args = ap (λ (s : SigRecord). length s.args) i.sig in
    let few = m.1 in
    let around : Around p g (scope_of p.names f) = record { known = record { same = refl; few = omega (arith, few, count, k.counted); all = all; short = short }; words = words; own = subst (λ (s : SigRecord). AreWords s.results) (sym i.sig) k.results } in
    record {
      name = subst (λ n. IsName (symbol p.names n)) (sym i.name) k.name;
      shown = subst (λ n. is_skipped (symbol p.names n) ≡ false) (sym i.name) k.shown;
      few = omega arith;
      args = subst (λ (s : SigRecord). AreWords s.args) (sym i.sig) k.args;
      results = subst (λ (s : SigRecord). AreWords s.results) (sym i.sig) k.results;
      some = some_zip (λ b r. block_of (scope_of p.names f) b ≡ Ok r) f.blocks g.blocks zip k.some;
      blocks = zip_each (λ b r. block_of (scope_of p.names f) b ≡ Ok r) SoundBlock (FormedBlock p t g) (FitsBlock p g.sig) f.blocks g.blocks (λ b r e l n. block_fits p g t (scope_of p.names f) b r around e l n) zip k.blocks (blocks_formed p g t m.0);
    }

func_words : (names : List (List ℕ)) (f : FuncTree) (g : FuncRecord) → func_of names f ≡ Ok g → SoundFunc names f → WordResults g
func_words names f g h k = subst (λ (s : SigRecord). AreWords s.results) (sym (func_is names f g h).sig) k.results

both_each : {A : Type 0} (P Q : A → Type 0) (xs : List A) → AllByRecursion P xs → AllByRecursion Q xs → AllByRecursion (λ x. P x × Q x) xs
both_each P Q [] h g = tt
both_each P Q (x ∷ xs) h g = ((h.0, g.0), both_each P Q xs h.1 g.1)

nothing_each : {A : Type 0} (xs : List A) → AllByRecursion (λ (x : A). Unit {0}) xs
nothing_each [] = tt
nothing_each (x ∷ xs) = (tt, nothing_each xs)

-- The package.

pub fits : (text : List ℕ) (p : PackageRecord) (t : Target) → reading text ≡ Ok p → All (IsFormed p t) p.funcs → FitsText p
fits text p t h formed =
    let d = text_declares text p h in
    let named = text_is_named text p h in
    let made = package_made d.last.names d.last.funcs d.last.vars p d.found in
    let sound = all_sound (lines text) (lines_of_all d.all) d.spelled.lines in
    let small = run_small at_start d.last (lines_of_all d.all) d.goes in
    let names : names_of_all d.all ≡ p.names = sym (made.names ∙ d.names) in
    let short : length p.names ≤ 8192 = omega (arith, named.few_funcs, named.few_vars, named.counted) in
    let room : 0 + length (names_of_all d.all) ≤ 8192 = omega (arith, short, ap length names) in
    let trees : AllByRecursion (SoundFunc p.names) (funcs_from 0 d.all) = subst (λ ns. AllByRecursion (SoundFunc ns) (funcs_from 0 d.all)) names (funcs_sound [] d.all 0 refl room (recursion_from_All IsWhole d.all d.spelled.whole) sound) in
    let zip : AllZip (λ f g. func_of p.names f ≡ Ok g) (funcs_from 0 d.all) p.funcs = each_is (func_of p.names) (funcs_from 0 d.all) p.funcs (ap (λ ns. each (func_of ns) (funcs_from 0 d.all)) made.names ∙ ap (λ fs. each (func_of d.last.names) fs) (sym d.funcs) ∙ made.funcs) in
    let words : AllByRecursion WordResults p.funcs = zip_each (λ f g. func_of p.names f ≡ Ok g) (SoundFunc p.names) (λ (g : FuncRecord). Unit {0}) WordResults (funcs_from 0 d.all) p.funcs (λ f g e k u. func_words p.names f g e k) zip trees (nothing_each p.funcs) in
    let forms = both_each (λ g. IsInForm p g t) IsShortFunc p.funcs (recursion_from_All (IsFormed p t) p.funcs formed) (recursion_from_All IsShortFunc p.funcs (text_is_short text p h)) in
    record {
      funcs = zip_each (λ f g. func_of p.names f ≡ Ok g) (SoundFunc p.names) (λ g. IsInForm p g t × IsShortFunc g) (FitsFunc p) (funcs_from 0 d.all) p.funcs (λ f g e k m. func_fits p t f g named.named short words e k m) zip trees forms;
      vars = subst (λ vs. AllByRecursion (FitsVar p.names) vs) (sym (made.vars ∙ d.vars)) (subst (λ ns. AllByRecursion (FitsVar ns) (vars_from 0 d.all)) names (vars_fit [] d.all 0 refl room sound small));
    }

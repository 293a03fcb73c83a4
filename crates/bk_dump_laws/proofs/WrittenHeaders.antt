-- The lines that declare functions, as they are written, spell what the functions say.
use Rattle.std.proofs.Common.{◌≡◌, ℕ, suc, ◌+◌, ◌^◌, ◌<◌, List, [], ◌∷◌, ◌++◌, length, ap, ◌∙◌, sym, refl, subst, arith, append_assoc, false, cond, inl, inr}
use Rattle.std.specs.Prelude.{codes, ◌==◌}
use Rattle.std.specs.List.{AllByRecursion, AllZip}
use Rattle.std.proofs.lemmas.Bool.Decides.{nat_tests}
use Rattle.bk_ops.specs.declared.types.Ty.{Ty}
use Rattle.bk_func.specs.Records.{SigRecord, FuncRecord, PackageRecord}
use Rattle.bk_dump.specs.Parts.{Part, word, mark, behind_commas, listed, Spells, IsName}
use Rattle.bk_dump_laws.specs.Lines.{IsWordType, IsParameter, AreResults, IsFuncLine}
use Rattle.bk_dump.specs.Print.{type_name, symbol, argument_name, separator, parameter, parameters, results, header}
use Rattle.bk_dump.specs.Print.{listed as listed_text}
use Rattle.bk_dump_laws.specs.Printed.{parameters_of, header_tree, FitsFunc}
use Rattle.bk_dump_laws.proofs.Writing.{more_than_none, Solid, solid_text, name_solid, plain_solid, Writes, Begins, writes_mark, writes_word, spaced, writes_append}
use Rattle.bk_dump_laws.proofs.WrittenValues.{argument_is_named, type_solid, place_type, each_type, are_places}

commas_begin : (each : List (List Part)) (text : List ℕ) → Begins (behind_commas each) text
commas_begin [] text = tt
commas_begin (parts ∷ more) text = tt

separator_more : (k : ℕ) → codes ", " ≡ separator (suc k)
unfolding separator
separator_more k = ap (λ b. cond b [] (codes ", ")) (sym (more_than_none k))

-- Parameters.

abbrev parameter_parts : ℕ → List Ty → List (List Part)
parameter_parts k [] = []
parameter_parts k (t ∷ ts) = (word (argument_name k) ∷ (word (type_name t) ∷ [])) ∷ parameter_parts (k + 1) ts

are_parameters : (k : ℕ) (ts : List Ty) → k + length ts < 2 ^ 64 → AllByRecursion IsWordType ts → AllZip IsParameter (parameter_parts k ts) (parameters_of k ts)
are_parameters k [] l h = tt
are_parameters k (t ∷ ts) l h = ((type_name t, refl, argument_is_named k (omega arith), place_type t h.0), are_parameters (k + 1) ts (omega arith) h.1)

argument_solid : (k : ℕ) → k < 2 ^ 64 → Solid (argument_name k)
argument_solid k h = plain_solid (argument_name k) (argument_is_named k h)

-- a parameter before others
writes_parameter : (k : ℕ) (t : Ty) (each : List (List Part)) (text : List ℕ) → k < 2 ^ 64 → IsWordType t → Writes (behind_commas each) text
    → Writes (word (argument_name k) ∷ (word (type_name t) ∷ behind_commas each)) (argument_name k ++ (32 ∷ (type_name t ++ text)))
writes_parameter k t each text l h w =
    let more = word (type_name t) ∷ behind_commas each in
    let typed = spaced more (type_name t ++ text) (writes_word (type_name t) (behind_commas each) text (type_solid t h.2) (commas_begin each text) w) in
    writes_word (argument_name k) more (32 ∷ (type_name t ++ text)) (argument_solid k l) refl typed

writes_more : (k : ℕ) (ts : List Ty) → suc k + length ts < 2 ^ 64 → AllByRecursion IsWordType ts → Writes (behind_commas (parameter_parts (suc k) ts)) (parameters (suc k) ts)
unfolding parameters parameter
writes_more k [] l h = (tt, tt)
writes_more k (t ∷ ts) l h =
    let a = argument_name (suc k) in
    let q : suc (suc k) ≡ suc k + 1 = omega arith in
    let each = parameter_parts (suc k + 1) ts in
    let rest = parameters (suc k + 1) ts in
    let behind : Writes (behind_commas each) rest = subst (λ m. Writes (behind_commas (parameter_parts m ts)) (parameters m ts)) q (writes_more (suc k) ts (omega arith) h.1) in
    let parts = word a ∷ (word (type_name t) ∷ behind_commas each) in
    let regrouped : codes ", " ++ (a ++ (32 ∷ (type_name t ++ rest))) ≡ (codes ", " ++ (a ++ (codes " " ++ type_name t))) ++ rest = simp append_assoc in
    subst (Writes (mark (codes ",") ∷ parts)) (regrouped ∙ ap (λ s. (s ++ (a ++ (codes " " ++ type_name t))) ++ rest) (separator_more k))
    (writes_mark (codes ",") parts (32 ∷ (a ++ (32 ∷ (type_name t ++ rest)))) (solid_text (codes ",") refl)
    (spaced parts (a ++ (32 ∷ (type_name t ++ rest))) (writes_parameter (suc k) t each rest (omega arith) h.0 behind)))

writes_parameters : (ts : List Ty) → length ts < 2 ^ 64 → AllByRecursion IsWordType ts → Writes (listed (parameter_parts 0 ts)) (parameters 0 ts)
unfolding parameters parameter separator
writes_parameters [] l h = (tt, tt)
writes_parameters (t ∷ ts) l h =
    let a = argument_name 0 in
    let each = parameter_parts 1 ts in
    let rest = parameters 1 ts in
    let regrouped : a ++ (32 ∷ (type_name t ++ rest)) ≡ ([] ++ (a ++ (codes " " ++ type_name t))) ++ rest = simp append_assoc in
    subst (Writes (word a ∷ (word (type_name t) ∷ behind_commas each))) regrouped (writes_parameter 0 t each rest (omega arith) h.0 (writes_more 0 ts (omega arith) h.1))

-- Results.

writes_more_types : (k : ℕ) (ts : List Ty) → AllByRecursion IsWordType ts → Writes (behind_commas (each_type ts)) (listed_text (suc k) ts)
unfolding listed_text
writes_more_types k [] h = (tt, tt)
writes_more_types k (t ∷ ts) h =
    let q : suc (suc k) ≡ suc k + 1 = omega arith in
    let more = behind_commas (each_type ts) in
    let rest = listed_text (suc k + 1) ts in
    let behind : Writes more rest = subst (λ m. Writes more (listed_text m ts)) q (writes_more_types (suc k) ts h.1) in
    let regrouped : codes ", " ++ (type_name t ++ rest) ≡ (codes ", " ++ type_name t) ++ rest = simp append_assoc in
    subst (Writes (mark (codes ",") ∷ (word (type_name t) ∷ more))) (regrouped ∙ ap (λ s. (s ++ type_name t) ++ rest) (separator_more k))
    (writes_mark (codes ",") (word (type_name t) ∷ more) (32 ∷ (type_name t ++ rest)) (solid_text (codes ",") refl)
    (spaced (word (type_name t) ∷ more) (type_name t ++ rest) (writes_word (type_name t) more rest (type_solid t h.0.2) (commas_begin (each_type ts) rest) behind)))

writes_listed : (t : Ty) (ts : List Ty) → AllByRecursion IsWordType (t ∷ ts) → Writes (listed (each_type (t ∷ ts))) (listed_text 0 (t ∷ ts))
unfolding listed_text separator
writes_listed t ts h = writes_word (type_name t) (behind_commas (each_type ts)) (listed_text 1 ts) (type_solid t h.0.2) (commas_begin (each_type ts) (listed_text 1 ts)) (writes_more_types 0 ts h.1)

abbrev result_parts : List Ty → List Part
result_parts [] = []
result_parts (t ∷ []) = listed (each_type (t ∷ []))
result_parts (t ∷ u ∷ ts) = mark (codes "(") ∷ (listed (each_type (t ∷ u ∷ ts)) ++ mark (codes ")") ∷ [])

are_results : (ts : List Ty) → AllByRecursion IsWordType ts → AreResults (result_parts ts) ts
are_results [] h = ([], tt, inl (omega arith, refl))
are_results (t ∷ []) h = (each_type (t ∷ []), are_places (t ∷ []) h, inl (omega arith, refl))
are_results (t ∷ u ∷ ts) h = (each_type (t ∷ u ∷ ts), are_places (t ∷ u ∷ ts) h, inr (omega arith, refl))

not_one : (n : ℕ) → (suc (suc n) == 1) ≡ false
not_one n = grind (arith, nat_tests)

several : (t u : Ty) (ts : List Ty) → codes " (" ++ (listed_text 0 (t ∷ u ∷ ts) ++ codes ")") ≡ results (t ∷ u ∷ ts)
unfolding results
several t u ts =
    let text = listed_text 0 (t ∷ u ∷ ts) in
    ap (λ b. cond b (codes " " ++ text) (codes " (" ++ (text ++ codes ")"))) (sym (not_one (length ts)))
    ∙ ap (λ b. cond b [] (cond (suc (suc (length ts)) == 1) (codes " " ++ text) (codes " (" ++ (text ++ codes ")")))) (sym (more_than_none (suc (length ts))))

results_begin : (ts : List Ty) → Begins (result_parts ts) (results ts)
unfolding results
results_begin [] = tt
results_begin (t ∷ []) = refl
results_begin (t ∷ u ∷ ts) = tt

writes_results : (ts : List Ty) → AllByRecursion IsWordType ts → Writes (result_parts ts) (results ts)
unfolding results
writes_results [] h = (tt, tt)
writes_results (t ∷ []) h = spaced (result_parts (t ∷ [])) (listed_text 0 (t ∷ [])) (writes_listed t [] h)
writes_results (t ∷ u ∷ ts) h =
    let each = listed (each_type (t ∷ u ∷ ts)) in
    let text = listed_text 0 (t ∷ u ∷ ts) in
    let closed = writes_append each (mark (codes ")") ∷ []) text (codes ")") (writes_listed t (u ∷ ts) h) (writes_mark (codes ")") [] [] (solid_text (codes ")") refl) (tt, tt)) tt in
    subst (Writes (mark (codes "(") ∷ (each ++ mark (codes ")") ∷ []))) (several t u ts)
    (spaced (mark (codes "(") ∷ (each ++ mark (codes ")") ∷ [])) (codes "(" ++ (text ++ codes ")")) (writes_mark (codes "(") (each ++ mark (codes ")") ∷ []) (text ++ codes ")") (solid_text (codes "(") refl) closed))

-- The line.

abbrev header_parts : List ℕ → SigRecord → List Part
header_parts name s = word name ∷ (word (codes "func") ∷ (mark (codes "(") ∷ (listed (parameter_parts 0 s.args) ++ (mark (codes ")") ∷ result_parts s.results))))

abbrev pub header_text : List ℕ → SigRecord → List ℕ
header_text name s = name ++ (codes " func(" ++ (parameters 0 s.args ++ (codes ")" ++ results s.results)))

pub header_is : (name : List ℕ) (s : SigRecord) → header name s ≡ header_text name s ++ codes "\n"
unfolding header
header_is name s = simp append_assoc

writes_header : (name : List ℕ) (s : SigRecord) → IsName name → length s.args < 2 ^ 64 → AllByRecursion IsWordType s.args → AllByRecursion IsWordType s.results → Writes (header_parts name s) (header_text name s)
writes_header name s n l h g =
    let params = listed (parameter_parts 0 s.args) in
    let given = result_parts s.results in
    let behind = codes ")" ++ results s.results in
    let closed = writes_mark (codes ")") given (results s.results) (solid_text (codes ")") refl) (writes_results s.results g) in
    let inside = writes_append params (mark (codes ")") ∷ given) (parameters 0 s.args) behind (writes_parameters s.args l h) closed tt in
    let opened = writes_mark (codes "(") (params ++ (mark (codes ")") ∷ given)) (parameters 0 s.args ++ behind) (solid_text (codes "(") refl) inside in
    let parts = mark (codes "(") ∷ (params ++ (mark (codes ")") ∷ given)) in
    let text = codes "(" ++ (parameters 0 s.args ++ behind) in
    let worded = writes_word (codes "func") parts text (solid_text (codes "func") refl) tt opened in
    writes_word name (word (codes "func") ∷ parts) (codes " func" ++ text) (name_solid name n) refl (spaced (word (codes "func") ∷ parts) (codes "func" ++ text) worded)

pub header_spells : (p : PackageRecord) (f : FuncRecord) → FitsFunc p f → Spells IsFuncLine (header_text (symbol p.names f.name) f.sig) (header_tree p.names f) × Solid (header_text (symbol p.names f.name) f.sig)
header_spells p f h =
    let name = symbol p.names f.name in
    let w = writes_header name f.sig h.name h.few h.args h.results in
    ((header_parts name f.sig, w.0, (parameter_parts 0 f.sig.args, result_parts f.sig.results, h.name, are_parameters 0 f.sig.args (let l = h.few in omega arith) h.args, are_results f.sig.results h.results, refl)), w.1)

-- The lines that open a function: read exactly where their parts spell one.
use Rattle.std.proofs.Common.{◌≡◌, ℕ, ◌≤◌, List, [], ◌∷◌, ◌++◌, length, ap, ◌∙◌, sym, refl, subst, arith, Bool, true, false, cond, Option, Some, None, inl, inr, ⊎_elim}
use Rattle.std.specs.Prelude.{codes, nat_lt}
use Rattle.std.specs.List.{AllZip}
use Rattle.std.specs.Option.{option_map, option_map_or}
use Rattle.std.proofs.lemmas.Bool.Decides.{nat_tests}
use Rattle.bk_ops.specs.declared.types.Ty.{Ty}
use Rattle.bk_dump.specs.Front.{◌>>=◌, or_else, mark_at, is_done, at_end}
use Rattle.bk_dump.specs.Words.{is_name_byte, is_plain_byte, name_at, plain_at}
use Rattle.bk_dump.specs.Types.{place_type_at, next_type_at}
use Rattle.bk_dump.specs.Trees.{ParameterTree, HeaderTree}
use Rattle.bk_dump.specs.Headers.{func_name_at, parameter_at, next_parameter_at, some_parameters_at, parameters_at, types_at, several_at, single_at, results_at, header_at}
use Rattle.bk_dump.specs.Parts.{Part, word, mark, AreBlanks, Apart, Lays, Spells, behind_commas, listed, IsName}
use Rattle.bk_dump_laws.specs.Lines.{IsPlace, IsParameter, AreResults, IsFuncLine}
use Rattle.bk_dump.proofs.Every.{Shrinks}
use Rattle.bk_dump.proofs.Shrinking.{bind_some, map_some, unless_true, next_type_shrinks, next_parameter_shrinks}
use Rattle.bk_dump_laws.proofs.Laying.{some_is, done_blanks, blanks_done, mark_reads, mark_lays, mark_not_done, plains_solid, word_not_done, apart_of, name_apart, word_marked, name_lays, name_reads, plain_lays, plain_reads, other_word, mark_gap}
use Rattle.bk_dump_laws.proofs.LaidBlocks.{either, ended, ends_here}
use Rattle.bk_dump_laws.proofs.LaidLists.{Item, next_at, listed_at, listed_lays, listed_reads, bracket_halts}
use Rattle.bk_dump_laws.proofs.LaidTypes.{place_item}

-- Parameters.

abbrev parameter_and : List ℕ → Ty → List ℕ → ParameterTree × List ℕ
parameter_and name ty r = (record { name = name; ty = ty }, r)

abbrev with_place : List ℕ → Option (Ty × List ℕ) → Option (ParameterTree × List ℕ)
with_place name o = o >>= λ t. Some (parameter_and name t.0 t.1)

abbrev parametered : Option (List ℕ × List ℕ) → Option (ParameterTree × List ℕ)
parametered o = o >>= λ n. with_place n.0 (place_type_at n.1)

parameter_item : Item parameter_at IsParameter
unfolding parameter_at
parameter_item = record {
  lays = λ text p r h.
      let n = bind_some (plain_at text) _ (p, r) h in
      let t = bind_some (place_type_at n.0.1) _ (p, r) n.2 in
      let f = plain_lays text n.0.0 n.0.1 n.1 in
      let g = place_item.lays n.0.1 t.0.0 t.0.1 t.1 in
      let same = some_is _ (p, r) t.2 in
      let tree : (parameter_and n.0.0 t.0.0 t.0.1).0 ≡ p = ap (λ x. x.0) same in
      let rest : t.0.1 ≡ r = ap (λ x. x.1) same in
      let begun : g.parts ≡ word g.item.0 ∷ [] = g.item.1 in
      record {
        parts = word n.0.0 ∷ g.parts;
        item = subst (IsParameter (word n.0.0 ∷ g.parts)) tree (g.item.0, ap (λ ps. word n.0.0 ∷ ps) begun, f.name, g.item.2);
        lays = λ more w l.
            let k : Lays (g.parts ++ more) n.0.1 = g.lays more w (subst (Lays more) (sym rest) l) in
            f.lays (g.parts ++ more) (subst (λ ps. Apart (word n.0.0) (ps ++ more) n.0.1) (sym begun) (name_apart is_plain_byte n.0.0 g.item.0 more n.0.1 g.item.2.0.some g.item.2.0.bytes f.stops (subst (λ ps. Lays (ps ++ more) n.0.1) begun k))) k;
      };
  reads = λ parts p more text h g l.
      let k : Lays (word p.name ∷ (word h.0 ∷ more)) text = subst (λ ps. Lays (ps ++ more) text) h.1 l in
      let f = plain_reads p.name (word h.0 ∷ more) text h.2 tt k in
      let t = place_item.reads (word h.0 ∷ []) p.ty more f.rest (h.0, refl, h.3) g f.laid in
      record {
        rest = t.rest;
        is = ap (λ o. o >>= λ n. place_type_at n.1 >>= λ t. Some (record { name = n.0; ty = t.0 }, t.1)) f.is
            ∙ ap (λ o. o >>= λ t. Some (record { name = p.name; ty = t.0 }, t.1)) t.is;
        laid = t.laid;
      };
}

next_parameters : (text : List ℕ) → next_parameter_at text ≡ next_at parameter_at text
unfolding next_parameter_at
next_parameters text = refl

next_types : (text : List ℕ) → next_type_at text ≡ next_at place_type_at text
unfolding next_type_at
next_types text = refl

parameters_shrink : Shrinks (next_at parameter_at)
parameters_shrink = record { by = λ text x r h. next_parameter_shrinks.by text x r (next_parameters text ∙ h) }

types_shrink : Shrinks (next_at place_type_at)
types_shrink = record { by = λ text x r h. next_type_shrinks.by text x r (next_types text ∙ h) }

some_parameters : (text : List ℕ) → some_parameters_at text ≡ listed_at parameter_at text
unfolding some_parameters_at next_parameter_at
some_parameters text = refl

some_types : (text : List ℕ) → types_at text ≡ listed_at place_type_at text
unfolding types_at next_type_at
some_types text = refl

-- up to the bracket, none or some
pub record LaysParameters (text : List ℕ) (ps : List ParameterTree) (r : List ℕ) : Type 0 where
  pub each : List (List Part)
  pub items : AllZip IsParameter each ps
  pub lays : (more : List Part) → Lays more r → Lays (listed each ++ (mark (codes ")") ∷ more)) text

parameters_lay : (text : List ℕ) (ps : List ParameterTree) (r : List ℕ) → parameters_at text ≡ Some (ps, r) → LaysParameters text ps r
unfolding parameters_at
parameters_lay text ps r h =
    ⊎_elim (λ e.
    let m = map_some _ (mark_at (codes ")") text) (ps, r) e in
    record { each = []; items = subst (AllZip IsParameter []) (ap (λ x. x.0) m.2) tt; lays = λ more l. mark_lays (codes ")") more text m.0 m.1 (subst (Lays more) (sym (ap (λ x. x.1) m.2)) l) })
    (λ e. let f = listed_lays parameter_at IsParameter parameter_item text ps r (sym (some_parameters text) ∙ e.1) in record { each = f.each; items = f.items; lays = f.lays })
    (either (option_map (λ r. ([], r)) (mark_at (codes ")") text)) (some_parameters_at text) (ps, r) h)

parameters_none : (text r : List ℕ) → mark_at (codes ")") text ≡ Some r → parameters_at text ≡ Some ([], r)
unfolding parameters_at
parameters_none text r h = ap (λ o. or_else (option_map (λ r. ([], r)) o) (some_parameters_at text)) h

parameters_some : (text : List ℕ) (ps : List ParameterTree) (r : List ℕ) → mark_at (codes ")") text ≡ None → listed_at parameter_at text ≡ Some (ps, r) → parameters_at text ≡ Some (ps, r)
unfolding parameters_at
parameters_some text ps r h g = ap (λ o. or_else (option_map (λ r. ([], r)) o) (some_parameters_at text)) h ∙ some_parameters text ∙ g

parameters_read : (each : List (List Part)) (ps : List ParameterTree) (more : List Part) (text : List ℕ) → AllZip IsParameter each ps → Lays (listed each ++ (mark (codes ")") ∷ more)) text
    → (r : List ℕ) × (parameters_at text ≡ Some (ps, r)) × Lays more r
parameters_read [] [] more text z l = let m = mark_reads 41 [] more text refl l in (m.0, parameters_none text m.0 m.1, m.2)
parameters_read [] (p ∷ ps) more text z l = absurd z
parameters_read (e ∷ each) [] more text z l = absurd z
parameters_read (e ∷ each) (p ∷ ps) more text z l =
    let f = listed_reads parameter_at IsParameter parameter_item parameters_shrink (e ∷ each) (p ∷ ps) more text z (omega arith) l in
    (f.0, parameters_some text (p ∷ ps) f.0 (other_word is_plain_byte 41 [] p.name (word z.0.0 ∷ (behind_commas each ++ (mark (codes ")") ∷ more))) text plains_solid bracket_halts z.0.2.some z.0.2.bytes (subst (λ qs. Lays ((qs ++ behind_commas each) ++ (mark (codes ")") ∷ more)) text) z.0.1 l)) f.1, f.2)

-- Results.

abbrev LaidResults : List ℕ → List Ty → Type 0
LaidResults text rs = (behind : List Part) × AreResults behind rs × Lays behind text

not_less : (n : ℕ) → nat_lt n 2 ≡ false → 2 ≤ n
not_less n h = grind (arith, nat_tests)

less_not : (n : ℕ) → 2 ≤ n → nat_lt n 2 ≡ false
less_not n h = grind (arith, nat_tests)

several_lay : (text a : List ℕ) (rs : List Ty) → mark_at (codes "(") text ≡ Some a → several_at a ≡ Some rs → LaidResults text rs
unfolding several_at
several_lay text a rs m h =
    let ts = bind_some (types_at a) _ rs h in
    let q = unless_true (nat_lt (length ts.0.0) 2) (at_end ts.0.1 ts.0.0) rs ts.2 in
    let e = ended ts.0.1 ts.0.0 rs q.1 in
    let f = listed_lays place_type_at IsPlace place_item a ts.0.0 ts.0.1 (sym (some_types a) ∙ ts.1) in
    let behind = mark (codes "(") ∷ (listed f.each ++ (mark (codes ")") ∷ [])) in (
      behind,
      subst (AreResults behind) e.1 (f.each, f.items, inr (not_less (length ts.0.0) q.0, refl)),
      mark_lays (codes "(") (listed f.each ++ (mark (codes ")") ∷ [])) text a m (f.lays [] e.0),
    )

single_lay : (text : List ℕ) (rs : List Ty) → single_at text ≡ Some rs → LaidResults text rs
unfolding single_at
single_lay text rs h =
    let t = bind_some (place_type_at text) _ rs h in
    let e = ended t.0.1 (t.0.0 ∷ []) rs t.2 in
    let g = place_item.lays text t.0.0 t.0.1 t.1 in
    (g.parts ++ [], subst (AreResults (g.parts ++ [])) e.1 (g.parts ∷ [], (g.item, tt), inl (omega arith, refl)), g.lays [] tt e.0)

bracket_step : (text : List ℕ) (rs : List Ty) (o : Option (List ℕ)) → mark_at (codes "(") text ≡ o → option_map_or several_at o (single_at text) ≡ Some rs → LaidResults text rs
bracket_step text rs None e h = single_lay text rs h
bracket_step text rs (Some a) e h = several_lay text a rs e h

results_step : (text : List ℕ) (rs : List Ty) (b : Bool) → is_done text ≡ b → cond b (Some []) (option_map_or several_at (mark_at (codes "(") text) (single_at text)) ≡ Some rs → LaidResults text rs
results_step text rs true e h = ([], subst (AreResults []) (some_is [] rs h) ([], tt, inl (omega arith, refl)), done_blanks text e)
results_step text rs false e h = bracket_step text rs (mark_at (codes "(") text) refl h

results_lay : (text : List ℕ) (rs : List Ty) → results_at text ≡ Some rs → LaidResults text rs
unfolding results_at
results_lay text rs h = results_step text rs (is_done text) refl h

-- an opening bracket is no byte of such names
open_halts : is_plain_byte 40 ≡ false
unfolding is_plain_byte is_name_byte
open_halts = refl

single_read : (text : List ℕ) (t : Ty) (r : List ℕ) → place_type_at text ≡ Some (t, r) → AreBlanks r → single_at text ≡ Some (t ∷ [])
unfolding single_at
single_read text t r h b = ap (λ o. o >>= λ t. at_end t.1 (t.0 ∷ [])) h ∙ ends_here r (t ∷ []) b

several_read : (a : List ℕ) (rs : List Ty) (r : List ℕ) → types_at a ≡ Some (rs, r) → 2 ≤ length rs → AreBlanks r → several_at a ≡ Some rs
unfolding several_at
several_read a rs r h l b =
    ap (λ o. o >>= λ ts. cond (nat_lt (length ts.0) 2) None (at_end ts.1 ts.0)) h
    ∙ ap (λ c. cond c None (at_end r rs)) (less_not (length rs) l)
    ∙ ends_here r rs b

results_none : (text : List ℕ) → is_done text ≡ true → results_at text ≡ Some []
unfolding results_at
results_none text h = ap (λ b. cond b (Some []) (option_map_or several_at (mark_at (codes "(") text) (single_at text))) h

results_one : (text : List ℕ) (rs : List Ty) → is_done text ≡ false → mark_at (codes "(") text ≡ None → single_at text ≡ Some rs → results_at text ≡ Some rs
unfolding results_at
results_one text rs h m g =
    ap (λ b. cond b (Some []) (option_map_or several_at (mark_at (codes "(") text) (single_at text))) h ∙ ap (λ o. option_map_or several_at o (single_at text)) m ∙ g

results_more : (text a : List ℕ) (rs : List Ty) → is_done text ≡ false → mark_at (codes "(") text ≡ Some a → several_at a ≡ Some rs → results_at text ≡ Some rs
unfolding results_at
results_more text a rs h m g =
    ap (λ b. cond b (Some []) (option_map_or several_at (mark_at (codes "(") text) (single_at text))) h ∙ ap (λ o. option_map_or several_at o (single_at text)) m ∙ g

few_read : (each : List (List Part)) (rs : List Ty) (text : List ℕ) → AllZip IsPlace each rs → length rs ≤ 1 → Lays (listed each) text → results_at text ≡ Some rs
few_read [] [] text z h l = results_none text (blanks_done text l)
few_read [] (r ∷ rs) text z h l = absurd z
few_read (e ∷ each) [] text z h l = absurd z
few_read (e ∷ (d ∷ each)) (r ∷ []) text z h l = absurd z.1
few_read (e ∷ each) (r ∷ (s ∷ rs)) text z h l = absurd (omega arith)
few_read (e ∷ []) (r ∷ []) text z h l =
    let k : Lays (word z.0.0 ∷ []) text = subst (λ ps. Lays (ps ++ []) text) z.0.1 l in
    let f = place_item.reads e r [] text z.0 tt l in
    results_one text (r ∷ []) (word_not_done is_plain_byte z.0.0 [] text plains_solid z.0.2.0.some z.0.2.0.bytes k)
    (other_word is_plain_byte 40 [] z.0.0 [] text plains_solid open_halts z.0.2.0.some z.0.2.0.bytes k)
    (single_read text r f.rest f.is f.laid)

results_read : (behind : List Part) (rs : List Ty) (text : List ℕ) → AreResults behind rs → Lays behind text → results_at text ≡ Some rs
results_read behind rs text (each, items, shape) l =
    ⊎_elim (λ e. few_read each rs text items e.0 (subst (λ ps. Lays ps text) e.1 l))
    (λ e.
    let k : Lays (mark (codes "(") ∷ (listed each ++ (mark (codes ")") ∷ []))) text = subst (λ ps. Lays ps text) e.1 l in
    let m = mark_reads 40 [] (listed each ++ (mark (codes ")") ∷ [])) text refl k in
    let f = listed_reads place_type_at IsPlace place_item types_shrink each rs [] m.0 items (omega arith) m.2 in
    results_more text m.0 rs (mark_not_done 40 [] (listed each ++ (mark (codes ")") ∷ [])) text refl k) m.1 (several_read m.0 rs f.0 (some_types m.0 ∙ f.1) e.0 f.2)) shape

-- The line.

f_named : is_name_byte 102 ≡ true
unfolding is_name_byte
f_named = refl

pub func_lays : (line : List ℕ) (h : HeaderTree) → header_at line ≡ Some h → Spells IsFuncLine line h
unfolding header_at func_name_at
func_lays line h e =
    let n = bind_some (func_name_at line) _ h e in
    let p = bind_some (parameters_at n.0.1) _ h n.2 in
    let r = bind_some (results_at p.0.1) _ h p.2 in
    let w = bind_some (name_at line) _ n.0 n.1 in
    let a = bind_some (mark_at (codes "func") w.0.1) _ n.0 w.2 in
    let b = bind_some (mark_at (codes "(") a.0) _ n.0 a.2 in
    let f = name_lays line w.0.0 w.0.1 w.1 in
    let g = parameters_lay n.0.1 p.0.0 p.0.1 p.1 in
    let rs = results_lay p.0.1 r.0 r.1 in
    let same = some_is _ n.0 b.2 in
    let rest : b.0 ≡ n.0.1 = ap (λ x. x.1) same in
    let name : w.0.0 ≡ n.0.0 = ap (λ x. x.0) same in
    let behind = listed g.each ++ (mark (codes ")") ∷ rs.0) in
    let inside : Lays behind b.0 = subst (Lays behind) (sym rest) (g.lays rs.0 rs.2) in
    let opened : Lays (mark (codes "(") ∷ behind) a.0 = mark_lays (codes "(") behind a.0 b.0 b.1 inside in
    let gap = mark_gap (codes "func") w.0.1 a.0 a.1 in
    let func : Lays (word (codes "func") ∷ (mark (codes "(") ∷ behind)) w.0.1 = (gap.0, a.0, gap.1, gap.2, tt, opened) in
    let laid = f.lays (word (codes "func") ∷ (mark (codes "(") ∷ behind)) (apart_of is_name_byte (codes "func") w.0.0 102 (codes "unc") (mark (codes "(") ∷ behind) w.0.1 f.stops refl f_named func) func in
    let tree = some_is _ h r.2 in
    let parts = word w.0.0 ∷ (word (codes "func") ∷ (mark (codes "(") ∷ behind)) in (
      parts,
      laid,
      subst (IsFuncLine parts) tree
          (g.each, rs.0, subst IsName name f.name, g.items, rs.1, ap (λ w. word w ∷ (word (codes "func") ∷ (mark (codes "(") ∷ behind))) name),
    )

-- the steps of the line, each with what it gives
abbrev named_func : List ℕ → Option (List ℕ) → Option (List ℕ × List ℕ)
named_func name o = o >>= λ b. Some (name, b)

abbrev bracketed : List ℕ → Option (List ℕ) → Option (List ℕ × List ℕ)
bracketed name o = o >>= λ a. named_func name (mark_at (codes "(") a)

abbrev funced : Option (List ℕ × List ℕ) → Option (List ℕ × List ℕ)
funced o = o >>= λ n. bracketed n.0 (mark_at (codes "func") n.1)

abbrev with_results : List ℕ → List ParameterTree → Option (List Ty) → Option HeaderTree
with_results name ps o = o >>= λ rs. Some (record { name = name; parameters = ps; results = rs })

abbrev with_parameters : List ℕ → Option (List ParameterTree × List ℕ) → Option HeaderTree
with_parameters name o = o >>= λ ps. with_results name ps.0 (results_at ps.1)

abbrev resulted : Option (List ℕ × List ℕ) → Option HeaderTree
resulted o = o >>= λ n. with_parameters n.0 (parameters_at n.1)

pub func_reads : (line : List ℕ) (h : HeaderTree) → Spells IsFuncLine line h → header_at line ≡ Some h
unfolding header_at func_name_at
func_reads line h (parts, laid, (each, behind, named, items, results, spelled)) =
    let inside = listed each ++ (mark (codes ")") ∷ behind) in
    let k = subst (λ ps. Lays ps line) spelled laid in
    let f = name_reads h.name (word (codes "func") ∷ (mark (codes "(") ∷ inside)) line named tt k in
    let a = word_marked 102 (codes "unc") (mark (codes "(") ∷ inside) f.rest refl f.laid in
    let b = mark_reads 40 [] inside a.0 refl a.3 in
    let p = parameters_read each h.parameters behind b.0 items b.2 in
    let r = results_read behind h.results p.0 results p.2 in
    ap (λ o. resulted (funced o)) f.is
    ∙ ap (λ o. resulted (bracketed h.name o)) a.1
    ∙ ap (λ o. resulted (named_func h.name o)) b.1
    ∙ ap (with_parameters h.name) p.1
    ∙ ap (with_results h.name h.parameters) r

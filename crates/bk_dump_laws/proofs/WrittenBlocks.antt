-- The lines that open and end blocks, as they are written, spell what the blocks say.
use Rattle.std.proofs.Common.{◌≡◌, ◌≢◌, ℕ, ◌<◌, List, [], ◌∷◌, ◌++◌, length, sym, refl, subst, arith, append_assoc, true, cond, Option, Some, None, ◌⊎◌, inl, inr}
use Rattle.std.specs.Prelude.{codes, ◌==◌, not}
use Rattle.std.specs.Fmt.{decimal}
use Rattle.std.specs.List.{AllByRecursion, list_all}
use Rattle.std.proofs.lemmas.Bool.Decides.{nat_tests}
use Rattle.bk_func.specs.declared.parts.Kind.{Kind}
use Rattle.bk_func.specs.declared.parts.Kind.TheVariants.{Plain, If, First, Ret, Exit}
use Rattle.bk_func.specs.declared.parts.Likely.{Likely}
use Rattle.bk_func.specs.declared.parts.Likely.TheVariants as likely
use Rattle.bk_func.specs.Records.{BlockRecord}
use Rattle.bk_dump.specs.Parts.{Part, word, mark, Spells, IsBackArrow}
use Rattle.bk_dump_laws.specs.Lines.{AreBlocks, AreGroups, IsBlockLine, IsControl, LeadsTo, AreSuccessors, IsEndLine}
use Rattle.bk_dump.specs.Blocks.{kind_word, mark_of, likely_of}
use Rattle.bk_dump.specs.Print.{numbers, edges, label, kind_name, control_part, ending}
use Rattle.bk_dump.specs.Print.{mark as mark_text, mark_part}
use Rattle.bk_dump_laws.specs.Printed.{IsShort, AreShort, label_tree, end_tree, FitsKind}
use Rattle.bk_dump.proofs.Runs.{both_hold}
use Rattle.bk_dump_laws.proofs.Writing.{more_than_none, Solid, solid_text, Writes, Begins, writes_mark, writes_word, writes_last, spaced, writes_append, is_numbered, numbered_solid, number_parts, numbers_are, writes_numbers}

-- An arrow and blocks.

abbrev edge_parts : List ℕ → List ℕ → List Part
edge_parts arrow [] = []
edge_parts arrow (n ∷ ns) = mark arrow ∷ number_parts (codes "b") (n ∷ ns)

writes_edges : (arrow ns : List ℕ) → Solid arrow → AreShort ns → Writes (edge_parts arrow ns) (edges (32 ∷ arrow) ns)
unfolding edges
writes_edges arrow [] s h = (tt, tt)
writes_edges arrow (n ∷ ns) s h =
    let more = number_parts (codes "b") (n ∷ ns) in
    let text = numbers (codes " b") (n ∷ ns) in
    subst (λ b. Writes (mark arrow ∷ more) (cond b [] (32 ∷ (arrow ++ text)))) (sym (more_than_none (length ns)))
    (spaced (mark arrow ∷ more) (arrow ++ text) (writes_mark arrow more text s (writes_numbers (codes "b") (n ∷ ns) (omega arith, tt) h)))

-- The line that opens a block.

abbrev label_parts : BlockRecord → List Part
label_parts b = word (codes "b" ++ decimal b.id) ∷ (mark (codes ":") ∷ edge_parts (codes "<-") b.preds)

abbrev pub label_text : BlockRecord → List ℕ
label_text b = codes "b" ++ (decimal b.id ++ (codes ":" ++ edges (codes " <-") b.preds))

pub label_is : (b : BlockRecord) → label b ≡ label_text b ++ codes "\n"
unfolding label
label_is b = simp append_assoc

writes_label : (b : BlockRecord) → IsShort b.id → AreShort b.preds → Writes (label_parts b) (label_text b)
writes_label b h g =
    let more = edge_parts (codes "<-") b.preds in
    let text = edges (codes " <-") b.preds in
    writes_word (codes "b" ++ decimal b.id) (mark (codes ":") ∷ more) (codes ":" ++ text) (numbered_solid (codes "b") b.id (omega arith, tt) h) tt
    (writes_mark (codes ":") more text (omega arith, tt) (writes_edges (codes "<-") b.preds (solid_text (codes "<-") refl) g))

abbrev ArePreds : List Part → List ℕ → Type 0
ArePreds behind ns = ((ns ≡ []) × (behind ≡ [])) ⊎ ((arrow : Part) × (preds : List Part) × IsBackArrow arrow × AreBlocks preds ns × (0 < length ns) × (behind ≡ arrow ∷ preds))

are_preds : (ns : List ℕ) → AreShort ns → ArePreds (edge_parts (codes "<-") ns) ns
are_preds [] h = inl (refl, refl)
are_preds (n ∷ ns) h = inr (mark (codes "<-"), number_parts (codes "b") (n ∷ ns), inl refl, numbers_are (codes "b") (n ∷ ns) h, omega arith, refl)

pub label_spells : (b : BlockRecord) → IsShort b.id → AreShort b.preds → Spells IsBlockLine (label_text b) (label_tree b) × Solid (label_text b)
label_spells b h g =
    let w = writes_label b h g in
    ((label_parts b, w.0, (word (codes "b" ++ decimal b.id), edge_parts (codes "<-") b.preds, is_numbered (codes "b") b.id h, refl, are_preds b.preds g)), w.1)

-- The line that ends a block.

kind_name_is : (k : Kind) → 32 ∷ (32 ∷ kind_word k) ≡ kind_name k
unfolding kind_name kind_word
kind_name_is Plain = refl
kind_name_is If = refl
kind_name_is First = refl
kind_name_is Ret = refl
kind_name_is Exit = refl

kind_solid : (k : Kind) → Solid (kind_word k)
unfolding kind_word
kind_solid Plain = solid_text (codes "Plain") refl
kind_solid If = solid_text (codes "If") refl
kind_solid First = solid_text (codes "First") refl
kind_solid Ret = solid_text (codes "Ret") refl
kind_solid Exit = solid_text (codes "Exit") refl

abbrev control_parts : Option ℕ → List Part
control_parts None = []
control_parts (Some v) = word (codes "v" ++ decimal v) ∷ []

abbrev ShortControl : Option ℕ → Type 0
ShortControl None = Unit {0}
ShortControl (Some v) = IsShort v

writes_control : (c : Option ℕ) → ShortControl c → Writes (control_parts c) (control_part c)
unfolding control_part
writes_control None h = (tt, tt)
writes_control (Some v) h = spaced (control_parts (Some v)) (codes "v" ++ decimal v) (writes_last (codes "v" ++ decimal v) (numbered_solid (codes "v") v (omega arith, tt) h))

short_control : (k : Kind) (c : Option ℕ) (succs : List ℕ) (l : Likely) → FitsKind k c succs l → ShortControl c
short_control Plain c succs l h = subst ShortControl (sym h.0) tt
short_control If c succs l h = subst ShortControl (sym h.0.1) h.0.2
short_control First c succs l h = subst ShortControl (sym h.0) tt
short_control Ret c succs l h = subst ShortControl (sym h.0.1) h.0.2
short_control Exit c succs l h = subst ShortControl (sym h.0.1) h.0.2

-- the mark of a successor is a group
abbrev inside_of : Kind → Likely → List (List ℕ)
inside_of If likely.First = codes "likely" ∷ []
inside_of If likely.Second = codes "unlikely" ∷ []
inside_of _ _ = []

abbrev group_parts : List (List ℕ) → List Part
group_parts [] = []
group_parts (inside ∷ more) = mark (codes "(" ++ (inside ++ codes ")")) ∷ group_parts more

not_closing : (c : ℕ) → not (c == 41) ≡ true → c ≢ 41
not_closing c h e = absurd (grind (arith, nat_tests, h, e))

open_text : (text : List ℕ) → list_all (λ c. not (c == 41)) text ≡ true → AllByRecursion (λ c. c ≢ 41) text
open_text [] h = tt
open_text (c ∷ text) h = let q = both_hold (not (c == 41)) (list_all (λ c. not (c == 41)) text) h in (not_closing c q.0, open_text text q.1)

one_group : (inside : List ℕ) → list_all (λ c. not (c == 41)) inside ≡ true → AreGroups (group_parts (inside ∷ [])) (inside ∷ [])
one_group inside h = (record { spelled = refl; closed = open_text inside h }, tt)

are_groups : (k : Kind) (l : Likely) → AreGroups (group_parts (inside_of k l)) (inside_of k l)
are_groups If likely.First = one_group (codes "likely") refl
are_groups If likely.Second = one_group (codes "unlikely") refl
are_groups If likely.No = tt
are_groups Plain l = tt
are_groups First l = tt
are_groups Ret l = tt
are_groups Exit l = tt

writes_groups : (k : Kind) (l : Likely) → Writes (group_parts (inside_of k l)) (mark_part k l)
unfolding mark_part mark_text
writes_groups If likely.First = spaced (mark (codes "(likely)") ∷ []) (codes "(likely)") (writes_mark (codes "(likely)") [] [] (solid_text (codes "(likely)") refl) (tt, tt))
writes_groups If likely.Second = spaced (mark (codes "(unlikely)") ∷ []) (codes "(unlikely)") (writes_mark (codes "(unlikely)") [] [] (solid_text (codes "(unlikely)") refl) (tt, tt))
writes_groups If likely.No = (tt, tt)
writes_groups Plain l = (tt, tt)
writes_groups First l = (tt, tt)
writes_groups Ret l = (tt, tt)
writes_groups Exit l = (tt, tt)

is_marked : (k : Kind) (c : Option ℕ) (succs : List ℕ) (l : Likely) → FitsKind k c succs l → l ≡ likely_of k (mark_of (inside_of k l))
is_marked Plain c succs l h = h.2
is_marked If c succs likely.First h = refl
is_marked If c succs likely.Second h = refl
is_marked If c succs likely.No h = refl
is_marked First c succs l h = h.2
is_marked Ret c succs l h = h.2
is_marked Exit c succs l h = h.2

is_control : (k : Kind) (c : Option ℕ) (succs : List ℕ) (l : Likely) → FitsKind k c succs l → IsControl k (control_parts c) c
is_control Plain c succs l h = subst (λ c. IsControl Plain (control_parts c) c) (sym h.0) (refl, refl)
is_control First c succs l h = subst (λ c. IsControl First (control_parts c) c) (sym h.0) (refl, refl)
is_control If c succs l h = let v = h.0.0 in subst (λ c. IsControl If (control_parts c) c) (sym h.0.1) (word (codes "v" ++ decimal v), v, refl, is_numbered (codes "v") v h.0.2, refl)
is_control Ret c succs l h = let v = h.0.0 in subst (λ c. IsControl Ret (control_parts c) c) (sym h.0.1) (word (codes "v" ++ decimal v), v, refl, is_numbered (codes "v") v h.0.2, refl)
is_control Exit c succs l h = let v = h.0.0 in subst (λ c. IsControl Exit (control_parts c) c) (sym h.0.1) (word (codes "v" ++ decimal v), v, refl, is_numbered (codes "v") v h.0.2, refl)

leads : (n : ℕ) (ns : List ℕ) → 0 < n → length ns ≡ n → AreShort ns → LeadsTo n (edge_parts (codes "->") ns) ns
leads n [] some e h = absurd (omega arith)
leads n (m ∷ ns) some e h = (mark (codes "->"), number_parts (codes "b") (m ∷ ns), inl refl, numbers_are (codes "b") (m ∷ ns) h, e, refl)

none_left : (k : Kind) (succs : List ℕ) → AreSuccessors k [] [] → succs ≡ [] → AreSuccessors k (edge_parts (codes "->") succs) succs
none_left k succs h e = subst (λ s. AreSuccessors k (edge_parts (codes "->") s) s) (sym e) h

are_successors : (k : Kind) (c : Option ℕ) (succs : List ℕ) (l : Likely) → FitsKind k c succs l → AreShort succs → AreSuccessors k (edge_parts (codes "->") succs) succs
are_successors Plain c succs l h g = leads 1 succs (omega arith) h.1 g
are_successors If c succs l h g = leads 2 succs (omega arith) h.1 g
are_successors First c succs l h g = leads 2 succs (omega arith) h.1 g
are_successors Ret c succs l h g = none_left Ret succs (refl, refl) h.1
are_successors Exit c succs l h g = none_left Exit succs (refl, refl) h.1

abbrev behind_control : BlockRecord → List Part
behind_control b = edge_parts (codes "->") b.succs ++ group_parts (inside_of b.kind b.likely)

abbrev end_parts : BlockRecord → List Part
end_parts b = word (kind_word b.kind) ∷ (control_parts b.control ++ behind_control b)

abbrev pub end_text : BlockRecord → List ℕ
end_text b = kind_name b.kind ++ (control_part b.control ++ (edges (codes " ->") b.succs ++ mark_part b.kind b.likely))

pub end_is : (b : BlockRecord) → ending b ≡ end_text b ++ codes "\n"
unfolding ending
end_is b = simp append_assoc

groups_begin : (inside : List (List ℕ)) (text : List ℕ) → Begins (group_parts inside) text
groups_begin [] text = tt
groups_begin (i ∷ is) text = tt

edges_begin : (ns : List ℕ) (inside : List (List ℕ)) (text : List ℕ) → Begins (edge_parts (codes "->") ns ++ group_parts inside) text
edges_begin [] inside text = groups_begin inside text
edges_begin (n ∷ ns) inside text = tt

control_begins : (c : Option ℕ) (more : List Part) (text : List ℕ) → Begins more text → Begins (control_parts c ++ more) (control_part c ++ text)
unfolding control_part
control_begins None more text h = h
control_begins (Some v) more text h = refl

writes_end : (b : BlockRecord) → FitsKind b.kind b.control b.succs b.likely → AreShort b.succs → Writes (end_parts b) (end_text b)
writes_end b h g =
    let inside = inside_of b.kind b.likely in
    let marks = mark_part b.kind b.likely in
    let more = behind_control b in
    let text = edges (codes " ->") b.succs ++ marks in
    let begins = edges_begin b.succs inside text in
    let leading = writes_append (edge_parts (codes "->") b.succs) (group_parts inside) (edges (codes " ->") b.succs) marks (writes_edges (codes "->") b.succs (solid_text (codes "->") refl) g) (writes_groups b.kind b.likely) (groups_begin inside marks) in
    let controlled = writes_append (control_parts b.control) more (control_part b.control) text (writes_control b.control (short_control b.kind b.control b.succs b.likely h)) leading begins in
    let whole = writes_word (kind_word b.kind) (control_parts b.control ++ more) (control_part b.control ++ text) (kind_solid b.kind) (control_begins b.control more text begins) controlled in
    subst (λ n. Writes (end_parts b) (n ++ (control_part b.control ++ text))) (kind_name_is b.kind)
    (spaced (end_parts b) (32 ∷ (kind_word b.kind ++ (control_part b.control ++ text))) (spaced (end_parts b) (kind_word b.kind ++ (control_part b.control ++ text)) whole))

pub end_spells : (b : BlockRecord) → FitsKind b.kind b.control b.succs b.likely → AreShort b.succs → Spells IsEndLine (end_text b) (end_tree b) × Solid (end_text b)
end_spells b h g =
    let w = writes_end b h g in
    let inside = inside_of b.kind b.likely in (
      (
        end_parts b,
        w.0,
        (control_parts b.control, edge_parts (codes "->") b.succs, group_parts inside, inside, refl, is_control b.kind b.control b.succs b.likely h, are_successors b.kind b.control b.succs b.likely h g, are_groups b.kind b.likely, is_marked b.kind b.control b.succs b.likely h),
      ),
      w.1,
    )

-- The lines that open a block: read exactly where their parts spell one.
use Rattle.std.proofs.Common.{◌≡◌, ℕ, ◌<◌, List, [], ◌∷◌, length, ap, ◌∙◌, sym, refl, subst, arith, append-nil, Bool, true, false, cond, Option, Some, None, ◌⊎◌, inl, inr, ⊎_elim}
use Rattle.std.specs.Prelude.{codes, ◌==◌}
use Rattle.std.proofs.lemmas.Bool.Decides.{nat_tests}
use Rattle.bk_dump.specs.Front.{◌>>=◌, or_else, unblanked, mark_at, is_done, at_end}
use Rattle.bk_dump.specs.Words.{back_arrow_at, number_at, numbers_at}
use Rattle.bk_dump.specs.Trees.{LabelTree}
use Rattle.bk_dump.specs.Blocks.{some_preds_at, preds_at, label_at, block_at}
use Rattle.bk_dump.specs.Parts.{Part, word, mark, AreBlanks, Lays, Spells, IsNumbered, IsBackArrow}
use Rattle.bk_dump_laws.specs.Lines.{AreBlocks, IsBlockLine}
use Rattle.bk_dump.proofs.Shrinking.{bind_some, if_true, unless_true}
use Rattle.bk_dump_laws.proofs.Laying.{some_is, done_blanks, blanks_done, mark_reads, mark_lays, mark_not_done, other_mark}
use Rattle.bk_dump_laws.proofs.LaidNumbers.{number_is, first_lays, first_reads, numbers_lays, numbers_reads}

-- what is done is nothing but blanks
pub ended : {A : Type 0} (text : List ℕ) (x y : A) → at_end text x ≡ Some y → AreBlanks text × (x ≡ y)
ended text x y h = let q = if_true (is_done text) (Some x) y h in (done_blanks text q.0, some_is x y q.1)

pub ends_here : {A : Type 0} (text : List ℕ) (x : A) → AreBlanks text → at_end text x ≡ Some x
ends_here text x h = ap (λ b. cond b (Some x) None) (blanks_done text h)

-- Arrows.

pub either : {A : Type 0} (a b : Option A) (x : A) → or_else a b ≡ Some x → (a ≡ Some x) ⊎ ((a ≡ None) × (b ≡ Some x))
either None b x h = inr (refl, h)
either (Some y) b x h = inl h

pub back_arrow_lays : (text r : List ℕ) → back_arrow_at text ≡ Some r → (arrow : Part) × IsBackArrow arrow × ((more : List Part) → Lays more r → Lays (arrow ∷ more) text)
unfolding back_arrow_at
back_arrow_lays text r h =
    ⊎_elim (λ a. (mark (codes "<-"), inl refl, λ more l. mark_lays (codes "<-") more text r a l))
    (λ a. (mark (226 ∷ 134 ∷ 144 ∷ []), inr refl, λ more l. mark_lays (226 ∷ 134 ∷ 144 ∷ []) more text r a.1 l))
    (either (mark_at (codes "<-") text) (mark_at (226 ∷ 134 ∷ 144 ∷ []) text) r h)

short_first : (text r : List ℕ) → mark_at (codes "<-") text ≡ Some r → back_arrow_at text ≡ Some r
unfolding back_arrow_at
short_first text r h = ap (λ o. or_else o (mark_at (226 ∷ 134 ∷ 144 ∷ []) text)) h

long_second : (text r : List ℕ) → mark_at (codes "<-") text ≡ None → mark_at (226 ∷ 134 ∷ 144 ∷ []) text ≡ Some r → back_arrow_at text ≡ Some r
unfolding back_arrow_at
long_second text r h g = ap (λ o. or_else o (mark_at (226 ∷ 134 ∷ 144 ∷ []) text)) h ∙ g

pub back_arrow_reads : (arrow : Part) (more : List Part) (text : List ℕ) → IsBackArrow arrow → Lays (arrow ∷ more) text → (r : List ℕ) × (back_arrow_at text ≡ Some r) × Lays more r
back_arrow_reads arrow more text h l =
    ⊎_elim (λ e. let m = mark_reads 60 (codes "-") more text refl (subst (λ a. Lays (a ∷ more) text) e l) in (m.0, short_first text m.0 m.1, m.2))
    (λ e. let k : Lays (mark (226 ∷ 134 ∷ 144 ∷ []) ∷ more) text = subst (λ a. Lays (a ∷ more) text) e l in
    let m = mark_reads 226 (134 ∷ 144 ∷ []) more text refl k in
    (m.0, long_second text m.0 (other_mark 60 (codes "-") 226 (134 ∷ 144 ∷ []) more text refl refl k) m.1, m.2)) h

-- Predecessors.

some_numbers : (n : ℕ) → (n == 0) ≡ false → 0 < n
some_numbers n h = grind (arith, nat_tests)

not_none : (n : ℕ) → 0 < n → (n == 0) ≡ false
not_none n h = grind (arith, nat_tests)

abbrev IsBehind : List Part → List ℕ → Type 0
IsBehind behind ns =
    ((ns ≡ []) × (behind ≡ [])) ⊎ ((arrow : Part) × (preds : List Part) × IsBackArrow arrow × AreBlocks preds ns × (0 < length ns) × (behind ≡ arrow ∷ preds))

some_preds_lay : (text : List ℕ) (ns : List ℕ) → some_preds_at text ≡ Some ns → (behind : List Part) × IsBehind behind ns × Lays behind text
unfolding some_preds_at
some_preds_lay text ns h =
    let a = bind_some (back_arrow_at text) _ ns h in
    let q = unless_true (length (numbers_at (codes "b") a.0).0 == 0) (at_end (numbers_at (codes "b") a.0).1 (numbers_at (codes "b") a.0).0) ns a.2 in
    let e = ended (numbers_at (codes "b") a.0).1 (numbers_at (codes "b") a.0).0 ns q.1 in
    let f = back_arrow_lays text a.0 a.1 in
    let g = numbers_lays (codes "b") a.0 [] tt e.0 in
    let some : 0 < length ns = subst (λ (ns : List ℕ). 0 < length ns) e.1 (some_numbers (length (numbers_at (codes "b") a.0).0) q.0) in
    (f.0 ∷ g.0, inr (f.0, g.0, f.1, subst (AreBlocks g.0) e.1 g.1, some, refl), f.2 g.0 (subst (λ ps. Lays ps a.0) (append-nil g.0) g.2))

preds_lay : (text : List ℕ) (ns : List ℕ) (b : Bool) → is_done text ≡ b → cond b (Some []) (some_preds_at text) ≡ Some ns → (behind : List Part) × IsBehind behind ns × Lays behind text
preds_lay text ns true e h = ([], inl (sym (some_is [] ns h), refl), done_blanks text e)
preds_lay text ns false e h = some_preds_lay text ns h

preds_laid : (text : List ℕ) (ns : List ℕ) → preds_at text ≡ Some ns → (behind : List Part) × IsBehind behind ns × Lays behind text
unfolding preds_at
preds_laid text ns h = preds_lay text ns (is_done text) refl h

arrow_not_done : (arrow : Part) (more : List Part) (text : List ℕ) → IsBackArrow arrow → Lays (arrow ∷ more) text → is_done text ≡ false
arrow_not_done arrow more text h l =
    ⊎_elim (λ e. mark_not_done 60 (codes "-") more text refl (subst (λ a. Lays (a ∷ more) text) e l))
    (λ e. mark_not_done 226 (134 ∷ 144 ∷ []) more text refl (subst (λ a. Lays (a ∷ more) text) e l)) h

preds_read : (behind : List Part) (ns : List ℕ) (text : List ℕ) → IsBehind behind ns → Lays behind text → preds_at text ≡ Some ns
unfolding preds_at some_preds_at
preds_read behind ns text h l =
    ⊎_elim (λ e. ap (λ b. cond b (Some []) (some_preds_at text)) (blanks_done text (subst (λ ps. Lays ps text) e.1 l)) ∙ ap Some (sym e.0))
    (λ e.
    let k = subst (λ ps. Lays ps text) e.5 l in
    let f = back_arrow_reads e.0 e.1 text e.2 k in
    let g = numbers_reads 98 e.1 ns [] f.0 refl e.3 tt (subst (λ ps. Lays ps f.0) (sym (append-nil e.1)) f.2) in
    ap (λ b. cond b (Some []) (some_preds_at text)) (arrow_not_done e.0 e.1 text e.2 k)
    ∙ ap (λ o. o >>= λ a. cond (length (numbers_at (codes "b") a).0 == 0) None (at_end (numbers_at (codes "b") a).1 (numbers_at (codes "b") a).0)) f.1
    ∙ ap (λ x. cond (length x.0 == 0) None (at_end x.1 x.0)) g.1
    ∙ ap (λ b. cond b None (at_end g.0 ns)) (not_none (length ns) e.4)
    ∙ ends_here g.0 ns g.2) h

-- The line.

pub block_lays : (line : List ℕ) (b : LabelTree) → block_at line ≡ Some b → Spells IsBlockLine line b
unfolding block_at label_at
block_lays line b h =
    let l = bind_some (label_at line) _ b h in
    let ps = bind_some (preds_at l.0.1) _ b l.2 in
    let n = bind_some (number_at (codes "b") (unblanked line)) _ l.0 l.1 in
    let a = bind_some (mark_at (codes ":") n.0.1) _ l.0 n.2 in
    let f = number_is (codes "b") (unblanked line) n.0.0 n.0.1 n.1 in
    let g = preds_laid l.0.1 ps.0 ps.1 in
    let same = some_is _ l.0 a.2 in
    let behind : Lays g.0 a.0 = subst (Lays g.0) (sym (ap (λ x. x.1) same)) g.2 in
    let marked : Lays (mark (codes ":") ∷ g.0) n.0.1 = mark_lays (codes ":") g.0 n.0.1 a.0 a.1 behind in
    let laid = first_lays (codes "b") line n.0.0 n.0.1 (mark (codes ":") ∷ g.0) f tt marked in
    let tree = some_is _ b ps.2 in (
      word f.bytes ∷ (mark (codes ":") ∷ g.0),
      laid,
      subst (IsBlockLine (word f.bytes ∷ (mark (codes ":") ∷ g.0))) tree (word f.bytes, g.0, subst (IsNumbered (codes "b") (word f.bytes)) (ap (λ x. x.0) same) f.is, refl, g.1),
    )

-- the steps of the line, each with what it gives
abbrev opened : Option (ℕ × List ℕ) → Option LabelTree
opened o = o >>= λ l. preds_at l.1 >>= λ ps. Some (record { id = l.0; preds = ps })

abbrev labelled : Option (ℕ × List ℕ) → Option (ℕ × List ℕ)
labelled o = o >>= λ n. mark_at (codes ":") n.1 >>= λ a. Some (n.0, a)

abbrev marked : ℕ → Option (List ℕ) → Option (ℕ × List ℕ)
marked n o = o >>= λ a. Some (n, a)

abbrev with_preds : ℕ → Option (List ℕ) → Option LabelTree
with_preds n o = o >>= λ ps. Some (record { id = n; preds = ps })

pub block_reads : (line : List ℕ) (b : LabelTree) → Spells IsBlockLine line b → block_at line ≡ Some b
unfolding block_at label_at
block_reads line b (parts, laid, (label, behind, numbered, spelled, preds)) =
    let k = subst (λ ps. Lays ps line) spelled laid in
    let f = first_reads 98 label b.id (mark (codes ":") ∷ behind) line refl numbered refl k in
    let m = mark_reads 58 [] behind f.rest refl f.laid in
    ap (λ o. opened (labelled o)) f.is ∙ ap (λ o. opened (marked b.id o)) m.1 ∙ ap (with_preds b.id) (preds_read behind b.preds m.0 preds m.2)

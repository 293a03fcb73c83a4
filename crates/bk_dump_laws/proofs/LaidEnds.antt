-- The lines that end a block: read exactly where their parts spell one.
use Rattle.std.proofs.Common.{◌≡◌, ℕ, ◌<◌, List, [], ◌∷◌, ◌++◌, length, ap, ◌∙◌, sym, refl, subst, arith, Bool, true, false, cond, Option, Some, None, inl, inr, ⊎_elim}
use Rattle.std.specs.Prelude.{codes, ◌==◌, ◌&&◌}
use Rattle.std.specs.List.{AllByRecursion, AllZip, find}
use Rattle.std.specs.Option.{option_map}
use Rattle.std.specs.Str.{bytes_eq}
use Rattle.std.specs.Char.{is_ascii_digit}
use Rattle.std.proofs.lemmas.Bool.Decides.{nat_tests}
use Rattle.bk_func.specs.declared.parts.Kind.{Kind}
use Rattle.bk_func.specs.declared.parts.Kind.TheVariants.{Plain, If, First, Ret, Exit}
use Rattle.bk_func.specs.declared.parts.Likely.{Likely}
use Rattle.bk_dump.specs.Front.{◌>>=◌, or_else, gap_at, mark_at}
use Rattle.bk_dump.specs.Words.{is_word_byte, word_at, arrow_at, number_at, next_number_at, numbers_at}
use Rattle.bk_dump.specs.Values.{groups_at}
use Rattle.bk_dump.specs.Trees.{EndTree}
use Rattle.bk_dump.specs.Blocks.{kind_word, kinds, kind_of, value_control_at, control_at, succs_at, mark_of, likely_of, kind_at, front_at, end_at}
use Rattle.bk_dump.specs.Parts.{Part, word, mark, Apart, Lays, Spells, IsNumbered, IsGroup, IsArrow}
use Rattle.bk_dump_laws.specs.Lines.{AreBlocks, IsControl, LeadsTo, AreSuccessors, IsEndLine}
use Rattle.bk_dump.proofs.Runs.{all_pass}
use Rattle.bk_dump.proofs.Shrinking.{bind_some, map_some, if_true}
use Rattle.bk_dump_laws.proofs.Laying.{some_is, mark_reads, mark_lays, other_mark, Halts, word_lays, word_reads}
use Rattle.bk_dump_laws.proofs.LaidNumbers.{first_lays, first_reads, numbers_lays, numbers_reads, next_is, next_over, begins_of, NoWord, free, Ends}
use Rattle.bk_dump_laws.proofs.LaidGroups.{groups_lays, groups_reads}
use Rattle.bk_dump_laws.proofs.LaidBlocks.{either}

-- What groups begin with.

pub groups_word : (parts : List Part) (gs : List (List ℕ)) → AllZip IsGroup parts gs → NoWord parts
groups_word [] gs h = tt
groups_word (p ∷ ps) [] h = absurd h
groups_word (p ∷ ps) (g ∷ gs) h = subst (λ q. NoWord (q ∷ ps)) (sym h.0.spelled) tt

pub groups_halt : (p : ℕ → Bool) (parts : List Part) (gs : List (List ℕ)) → p 40 ≡ false → AllZip IsGroup parts gs → Halts p parts
groups_halt p [] gs e h = tt
groups_halt p (q ∷ ps) [] e h = absurd h
groups_halt p (q ∷ ps) (g ∷ gs) e h = subst (λ q. Halts p (q ∷ ps)) (sym h.0.spelled) e

pub groups_end : (c : ℕ) (parts : List Part) (gs : List (List ℕ)) → (c == 40) ≡ false → AllZip IsGroup parts gs → Ends c parts
groups_end c [] gs e h = tt
groups_end c (q ∷ ps) [] e h = absurd h
groups_end c (q ∷ ps) (g ∷ gs) e h = subst (λ q. Ends c (q ∷ ps)) (sym h.0.spelled) (e, refl, refl)

-- Arrows.

arrow_lays : (text r : List ℕ) → arrow_at text ≡ Some r → (arrow : Part) × IsArrow arrow × ((more : List Part) → Lays more r → Lays (arrow ∷ more) text)
unfolding arrow_at
arrow_lays text r h =
    ⊎_elim (λ a. (mark (codes "->"), inl refl, λ more l. mark_lays (codes "->") more text r a l))
    (λ a. (mark (226 ∷ 134 ∷ 146 ∷ []), inr refl, λ more l. mark_lays (226 ∷ 134 ∷ 146 ∷ []) more text r a.1 l))
    (either (mark_at (codes "->") text) (mark_at (226 ∷ 134 ∷ 146 ∷ []) text) r h)

short_first : (text r : List ℕ) → mark_at (codes "->") text ≡ Some r → arrow_at text ≡ Some r
unfolding arrow_at
short_first text r h = ap (λ o. or_else o (mark_at (226 ∷ 134 ∷ 146 ∷ []) text)) h

long_second : (text r : List ℕ) → mark_at (codes "->") text ≡ None → mark_at (226 ∷ 134 ∷ 146 ∷ []) text ≡ Some r → arrow_at text ≡ Some r
unfolding arrow_at
long_second text r h g = ap (λ o. or_else o (mark_at (226 ∷ 134 ∷ 146 ∷ []) text)) h ∙ g

arrow_reads : (arrow : Part) (more : List Part) (text : List ℕ) → IsArrow arrow → Lays (arrow ∷ more) text → (r : List ℕ) × (arrow_at text ≡ Some r) × Lays more r
arrow_reads arrow more text h l =
    ⊎_elim (λ e. let m = mark_reads 45 (codes ">") more text refl (subst (λ a. Lays (a ∷ more) text) e l) in (m.0, short_first text m.0 m.1, m.2))
    (λ e. let k : Lays (mark (226 ∷ 134 ∷ 146 ∷ []) ∷ more) text = subst (λ a. Lays (a ∷ more) text) e l in
    let m = mark_reads 226 (134 ∷ 146 ∷ []) more text refl k in
    (m.0, long_second text m.0 (other_mark 45 (codes ">") 226 (134 ∷ 146 ∷ []) more text refl refl k) m.1, m.2)) h

arrow_word : (arrow : Part) (more : List Part) → IsArrow arrow → NoWord (arrow ∷ more)
arrow_word arrow more h = ⊎_elim (λ e. subst (λ a. NoWord (a ∷ more)) (sym e) tt) (λ e. subst (λ a. NoWord (a ∷ more)) (sym e) tt) h

arrow_halts : (p : ℕ → Bool) (arrow : Part) (more : List Part) → p 45 ≡ false → p 226 ≡ false → IsArrow arrow → Halts p (arrow ∷ more)
arrow_halts p arrow more f g h = ⊎_elim (λ e. subst (λ a. Halts p (a ∷ more)) (sym e) f) (λ e. subst (λ a. Halts p (a ∷ more)) (sym e) g) h

-- Successors.

same_number : (m n : ℕ) → (m == n) ≡ true → m ≡ n
same_number m n h = grind (arith, nat_tests)

number_same : (m n : ℕ) → m ≡ n → (m == n) ≡ true
number_same m n h = grind (arith, nat_tests)

abbrev some_at : ℕ → List ℕ → Option (List ℕ × List ℕ)
some_at n text = arrow_at text >>= λ a. cond (length (numbers_at (codes "b") a).0 == n) (Some (numbers_at (codes "b") a)) None

leads_lay : (n : ℕ) (text ns r : List ℕ) (more : List Part) → some_at n text ≡ Some (ns, r) → NoWord more → Lays more r
    → (parts : List Part) × LeadsTo n parts ns × Lays (parts ++ more) text × NoWord (parts ++ more)
leads_lay n text ns r more h w l =
    let a = bind_some (arrow_at text) _ (ns, r) h in
    let q = if_true (length (numbers_at (codes "b") a.0).0 == n) (Some (numbers_at (codes "b") a.0)) (ns, r) a.2 in
    let same = some_is (numbers_at (codes "b") a.0) (ns, r) q.1 in
    let front : (numbers_at (codes "b") a.0).0 ≡ ns = ap (λ x. x.0) same in
    let f = arrow_lays text a.0 a.1 in
    let g = numbers_lays (codes "b") a.0 more w (subst (Lays more) (sym (ap (λ x. x.1) same)) l) in (
      f.0 ∷ g.0,
      (f.0, g.0, f.1, subst (AreBlocks g.0) front g.1, ap length (sym front) ∙ same_number (length (numbers_at (codes "b") a.0).0) n q.0, refl),
      f.2 (g.0 ++ more) g.2,
      arrow_word f.0 (g.0 ++ more) f.1,
    )

leads_read : (n : ℕ) (parts : List Part) (text ns : List ℕ) (more : List Part) → LeadsTo n parts ns → Ends 98 more → Lays (parts ++ more) text → (r : List ℕ) × (some_at n text ≡ Some (ns, r)) × Lays more r
leads_read n parts text ns more (arrow, blocks, is, are, count, spelled) e l =
    let k = subst (λ ps. Lays (ps ++ more) text) spelled l in
    let f = arrow_reads arrow (blocks ++ more) text is k in
    let g = numbers_reads 98 blocks ns more f.0 refl are e f.2 in (
      g.0,
      ap (λ o. o >>= λ a. cond (length (numbers_at (codes "b") a).0 == n) (Some (numbers_at (codes "b") a)) None) f.1
          ∙ ap (λ x. cond (length x.0 == n) (Some x) None) g.1
          ∙ ap (λ b. cond b (Some (ns, g.0)) None) (number_same (length ns) n count),
      g.2,
    )

succs_lay : (k : Kind) (text ns r : List ℕ) (more : List Part) → succs_at k text ≡ Some (ns, r) → NoWord more → Lays more r
    → (parts : List Part) × AreSuccessors k parts ns × Lays (parts ++ more) text × NoWord (parts ++ more)
unfolding succs_at
succs_lay Plain text ns r more h w l = leads_lay 1 text ns r more h w l
succs_lay If text ns r more h w l = leads_lay 2 text ns r more h w l
succs_lay First text ns r more h w l = leads_lay 2 text ns r more h w l
succs_lay Ret text ns r more h w l = let same = some_is ([], text) (ns, r) h in ([], (refl, sym (ap (λ x. x.0) same)), subst (Lays more) (sym (ap (λ x. x.1) same)) l, w)
succs_lay Exit text ns r more h w l = let same = some_is ([], text) (ns, r) h in ([], (refl, sym (ap (λ x. x.0) same)), subst (Lays more) (sym (ap (λ x. x.1) same)) l, w)

abbrev blocks_and : List ℕ → List ℕ → Option (List ℕ × List ℕ)
blocks_and ns r = Some (ns, r)

none_read : (parts : List Part) (ns : List ℕ) (more : List Part) (text : List ℕ) → (parts ≡ []) × (ns ≡ []) → Lays (parts ++ more) text → (r : List ℕ) × (blocks_and [] text ≡ blocks_and ns r) × Lays more r
none_read parts ns more text h l = (text, ap (λ ns. Some (ns, text)) (sym h.1), subst (λ ps. Lays (ps ++ more) text) h.0 l)

succs_read : (k : Kind) (parts : List Part) (text ns : List ℕ) (more : List Part) → AreSuccessors k parts ns → Ends 98 more → Lays (parts ++ more) text → (r : List ℕ) × (succs_at k text ≡ Some (ns, r)) × Lays more r
unfolding succs_at
succs_read Plain parts text ns more h e l = leads_read 1 parts text ns more h e l
succs_read If parts text ns more h e l = leads_read 2 parts text ns more h e l
succs_read First parts text ns more h e l = leads_read 2 parts text ns more h e l
succs_read Ret parts text ns more h e l = none_read parts ns more text h l
succs_read Exit parts text ns more h e l = none_read parts ns more text h l

-- the parts of successors and groups do not go on with a byte of the test
leads_halt : (p : ℕ → Bool) (n : ℕ) (parts : List Part) (ns : List ℕ) (more : List Part) → p 45 ≡ false → p 226 ≡ false → LeadsTo n parts ns → Halts p (parts ++ more)
leads_halt p n parts ns more f g (arrow, blocks, is, are, count, spelled) = subst (λ ps. Halts p (ps ++ more)) (sym spelled) (arrow_halts p arrow (blocks ++ more) f g is)

succs_halt : (p : ℕ → Bool) (k : Kind) (parts : List Part) (ns : List ℕ) (more : List Part) → p 45 ≡ false → p 226 ≡ false → Halts p more → AreSuccessors k parts ns → Halts p (parts ++ more)
succs_halt p Plain parts ns more f g w h = leads_halt p 1 parts ns more f g h
succs_halt p If parts ns more f g w h = leads_halt p 2 parts ns more f g h
succs_halt p First parts ns more f g w h = leads_halt p 2 parts ns more f g h
succs_halt p Ret parts ns more f g w h = subst (λ ps. Halts p (ps ++ more)) (sym h.0) w
succs_halt p Exit parts ns more f g w h = subst (λ ps. Halts p (ps ++ more)) (sym h.0) w

-- Controls.

-- how a control is laid out, behind the word of the kind
pub record LaysControl (k : Kind) (c : Option ℕ) (more : List Part) (text : List ℕ) : Type 0 where
  pub parts : List Part
  pub is : IsControl k parts c
  pub apart : (w : List ℕ) → Apart (word w) (parts ++ more) text
  pub laid : Lays (parts ++ more) text

abbrev IsValueControl : List Part → Option ℕ → Type 0
IsValueControl parts c = (part : Part) × (v : ℕ) × (parts ≡ part ∷ []) × IsNumbered (codes "v") part v × (c ≡ Some v)

next_of : (text : List ℕ) (n : ℕ) (r : List ℕ) → (gap_at text >>= number_at (codes "v")) ≡ Some (n, r) → next_number_at (codes "v") text ≡ Some (n, r)
unfolding next_number_at
next_of text n r h = h

value_lays : (text : List ℕ) (c : Option ℕ) (r : List ℕ) (more : List Part) → value_control_at text ≡ Some (c, r) → NoWord more → Lays more r
    → (parts : List Part) × IsValueControl parts c × ((w : List ℕ) → Apart (word w) (parts ++ more) text) × Lays (parts ++ more) text
unfolding value_control_at
value_lays text c r more h w l =
    let a = bind_some (gap_at text) _ (c, r) h in
    let n = bind_some (number_at (codes "v") a.0) _ (c, r) a.2 in
    let same = some_is _ (c, r) n.2 in
    let f = next_is (codes "v") text n.0.0 n.0.1 (next_of text n.0.0 n.0.1 (ap (λ o. o >>= number_at (codes "v")) a.1 ∙ n.1)) in
    let laid : Lays more n.0.1 = subst (Lays more) (sym (ap (λ x. x.1) same)) l in
    (word f.here.bytes ∷ [], (word f.here.bytes, n.0.0, refl, f.here.is, sym (ap (λ x. x.0) same)), λ w. f.begins, first_lays (codes "v") text n.0.0 n.0.1 more f.here (free (word f.here.bytes) more n.0.1 w) laid)

control_lay : (k : Kind) (text : List ℕ) (c : Option ℕ) (r : List ℕ) (more : List Part) → control_at k text ≡ Some (c, r) → NoWord more → Lays more r → LaysControl k c more text
unfolding control_at
control_lay Plain text c r more h w l = let same = some_is (None, text) (c, r) h in record { parts = []; is = (refl, sym (ap (λ x. x.0) same)); apart = λ v. free (word v) more text w; laid = subst (Lays more) (sym (ap (λ x. x.1) same)) l }
control_lay First text c r more h w l = let same = some_is (None, text) (c, r) h in record { parts = []; is = (refl, sym (ap (λ x. x.0) same)); apart = λ v. free (word v) more text w; laid = subst (Lays more) (sym (ap (λ x. x.1) same)) l }
control_lay If text c r more h w l = let f = value_lays text c r more h w l in record { parts = f.0; is = f.1; apart = f.2; laid = f.3 }
control_lay Ret text c r more h w l = let f = value_lays text c r more h w l in record { parts = f.0; is = f.1; apart = f.2; laid = f.3 }
control_lay Exit text c r more h w l = let f = value_lays text c r more h w l in record { parts = f.0; is = f.1; apart = f.2; laid = f.3 }

abbrev control_and : Option ℕ → List ℕ → Option (Option ℕ × List ℕ)
control_and c r = Some (c, r)

no_control_read : (parts : List Part) (c : Option ℕ) (more : List Part) (text : List ℕ) → (parts ≡ []) × (c ≡ None) → Lays (parts ++ more) text → (r : List ℕ) × (control_and None text ≡ control_and c r) × Lays more r
no_control_read parts c more text h l = (text, ap (λ c. Some (c, text)) (sym h.1), subst (λ ps. Lays (ps ++ more) text) h.0 l)

abbrev numbered : Option (ℕ × List ℕ) → Option (Option ℕ × List ℕ)
numbered o = o >>= λ n. Some (Some n.0, n.1)

abbrev gapped : Option (List ℕ) → Option (Option ℕ × List ℕ)
gapped o = o >>= λ a. number_at (codes "v") a >>= λ n. Some (Some n.0, n.1)

bound_over : (text : List ℕ) (n : ℕ) (r : List ℕ) → next_number_at (codes "v") text ≡ Some (n, r) → value_control_at text ≡ Some (Some n, r)
unfolding value_control_at next_number_at
bound_over text n r h =
    let a = bind_some (gap_at text) _ (n, r) h in
    ap gapped a.1 ∙ ap numbered a.2

value_reads : (w : List ℕ) (parts : List Part) (c : Option ℕ) (more : List Part) (text : List ℕ) → IsValueControl parts c → Halts is_ascii_digit more → Apart (word w) (parts ++ more) text → Lays (parts ++ more) text
    → (r : List ℕ) × (value_control_at text ≡ Some (c, r)) × Lays more r
value_reads w parts c more text (part, v, spelled, is, control) g a l =
    let k = subst (λ ps. Lays (ps ++ more) text) spelled l in
    let f = first_reads 118 part v more text refl is g k in
    let begins = begins_of 118 w part v more text is (subst (λ ps. Apart (word w) (ps ++ more) text) spelled a) in
    (f.rest, bound_over text v f.rest (next_over (codes "v") text (Some (v, f.rest)) begins f.is) ∙ ap (λ c. Some (c, f.rest)) (sym control), f.laid)

control_read : (k : Kind) (w : List ℕ) (parts : List Part) (c : Option ℕ) (more : List Part) (text : List ℕ) → IsControl k parts c → Halts is_ascii_digit more → Apart (word w) (parts ++ more) text → Lays (parts ++ more) text
    → (r : List ℕ) × (control_at k text ≡ Some (c, r)) × Lays more r
unfolding control_at
control_read Plain w parts c more text h g a l = no_control_read parts c more text h l
control_read First w parts c more text h g a l = no_control_read parts c more text h l
control_read If w parts c more text h g a l = value_reads w parts c more text h g a l
control_read Ret w parts c more text h g a l = value_reads w parts c more text h g a l
control_read Exit w parts c more text h g a l = value_reads w parts c more text h g a l

control_halts : (k : Kind) (parts : List Part) (c : Option ℕ) (more : List Part) → Halts is_word_byte more → IsControl k parts c → Halts is_word_byte (parts ++ more)
control_halts Plain parts c more g h = subst (λ ps. Halts is_word_byte (ps ++ more)) (sym h.0) g
control_halts First parts c more g h = subst (λ ps. Halts is_word_byte (ps ++ more)) (sym h.0) g
control_halts If parts c more g h = subst (λ ps. Halts is_word_byte (ps ++ more)) (sym h.2) (subst (λ p. Halts is_word_byte (p ∷ more)) (sym h.3.3) tt)
control_halts Ret parts c more g h = subst (λ ps. Halts is_word_byte (ps ++ more)) (sym h.2) (subst (λ p. Halts is_word_byte (p ∷ more)) (sym h.3.3) tt)
control_halts Exit parts c more g h = subst (λ ps. Halts is_word_byte (ps ++ more)) (sym h.2) (subst (λ p. Halts is_word_byte (p ∷ more)) (sym h.3.3) tt)

-- Kinds.

found_step : {A : Type 0} (p : A → Bool) (x : A) (rest : Option A) (y : A) (b : Bool) → p x ≡ b → (rest ≡ Some y → p y ≡ true) → cond b (Some x) rest ≡ Some y → p y ≡ true
found_step p x rest y true e f h = subst (λ z. p z ≡ true) (some_is x y h) e
found_step p x rest y false e f h = f h

pub found_passes : {A : Type 0} (p : A → Bool) (xs : List A) (y : A) → find p xs ≡ Some y → p y ≡ true
found_passes p [] y h = absurd (cc)
found_passes p (x ∷ xs) y h = found_step p x (find p xs) y (p x) refl (λ g. found_passes p xs y g) h

and_step : (c d : ℕ) (b : Bool) → (c == d && b) ≡ true → (c ≡ d) × (b ≡ true)
and_step c d true h = (grind (arith, nat_tests), refl)
and_step c d false h = absurd (grind (arith, nat_tests))

pub same_bytes : (xs ys : List ℕ) → bytes_eq xs ys ≡ true → xs ≡ ys
same_bytes [] [] h = refl
same_bytes [] (y ∷ ys) h = absurd (cc)
same_bytes (x ∷ xs) [] h = absurd (cc)
same_bytes (x ∷ xs) (y ∷ ys) h = let q = and_step x y (bytes_eq xs ys) h in ap (λ z. z ∷ xs) q.0 ∙ ap (λ zs. y ∷ zs) (same_bytes xs ys q.1)

kind_is : (name : List ℕ) (k : Kind) → kind_of name ≡ Some k → kind_word k ≡ name
unfolding kind_of
kind_is name k h = same_bytes (kind_word k) name (found_passes (λ k. bytes_eq (kind_word k) name) kinds k h)

kind_again : (k : Kind) → kind_of (kind_word k) ≡ Some k
unfolding kind_of kinds kind_word
kind_again Plain = refl
kind_again If = refl
kind_again First = refl
kind_again Ret = refl
kind_again Exit = refl

kind_bytes : (k : Kind) → (0 < length (kind_word k)) × AllByRecursion (λ c. is_word_byte c ≡ true) (kind_word k)
unfolding kind_word is_word_byte
kind_bytes Plain = (omega arith, all_pass is_word_byte (codes "Plain") refl)
kind_bytes If = (omega arith, all_pass is_word_byte (codes "If") refl)
kind_bytes First = (omega arith, all_pass is_word_byte (codes "First") refl)
kind_bytes Ret = (omega arith, all_pass is_word_byte (codes "Ret") refl)
kind_bytes Exit = (omega arith, all_pass is_word_byte (codes "Exit") refl)

-- The line.

pub end_lays : (line : List ℕ) (e : EndTree) → end_at line ≡ Some e → Spells IsEndLine line e
unfolding end_at front_at kind_at
end_lays line e h =
    let f = bind_some (front_at line) _ e h in
    let s = bind_some (succs_at f.0.0.0 f.0.1) _ e f.2 in
    let g = bind_some (groups_at s.0.1) _ e s.2 in
    let k = bind_some (kind_at line) _ f.0 f.1 in
    let c = bind_some (control_at k.0.0 k.0.1) _ f.0 k.2 in
    let m = map_some _ (kind_of (word_at line).0) k.0 k.1 in
    let w = word_lays line in
    let gs = groups_lays s.0.1 g.0 g.1 in
    let front = some_is _ f.0 c.2 in
    let kind : k.0.0 ≡ f.0.0.0 = ap (λ x. x.0.0) front in
    let named : m.0 ≡ k.0.0 = ap (λ x. x.0) m.2 in
    let ss = succs_lay f.0.0.0 f.0.1 s.0.0 s.0.1 gs.0 s.1 (groups_word gs.0 g.0 gs.1) gs.2 in
    let cs = control_lay k.0.0 k.0.1 c.0.0 c.0.1 (ss.0 ++ gs.0) c.1 ss.3 (subst (Lays (ss.0 ++ gs.0)) (sym (ap (λ x. x.1) front)) ss.2) in
    let rest : (word_at line).1 ≡ k.0.1 = ap (λ x. x.1) m.2 in
    let laid = w.lays (cs.parts ++ (ss.0 ++ gs.0)) (subst (Apart (word (word_at line).0) (cs.parts ++ (ss.0 ++ gs.0))) (sym rest) (cs.apart (word_at line).0)) (subst (Lays (cs.parts ++ (ss.0 ++ gs.0))) (sym rest) cs.laid) in
    let name : (word_at line).0 ≡ kind_word f.0.0.0 = sym (kind_is (word_at line).0 m.0 m.1) ∙ ap kind_word (named ∙ kind) in
    let tree = some_is _ e g.2 in (
      word (word_at line).0 ∷ (cs.parts ++ (ss.0 ++ gs.0)),
      laid,
      subst (IsEndLine (word (word_at line).0 ∷ (cs.parts ++ (ss.0 ++ gs.0)))) tree (
        cs.parts,
        ss.0,
        gs.0,
        g.0,
        ap (λ w. word w ∷ (cs.parts ++ (ss.0 ++ gs.0))) name,
        subst (λ k. IsControl k cs.parts f.0.0.1) kind (subst (IsControl k.0.0 cs.parts) (ap (λ x. x.0.1) front) cs.is),
        ss.1,
        gs.1,
        refl,
      ),
    )

minus_halts : is_word_byte 45 ≡ false
unfolding is_word_byte
minus_halts = refl

arrow_byte_halts : is_word_byte 226 ≡ false
unfolding is_word_byte
arrow_byte_halts = refl

bracket_halts : is_word_byte 40 ≡ false
unfolding is_word_byte
bracket_halts = refl

abbrev with_likely : EndTree → Likely → EndTree
with_likely e l = record e { likely = l }

same_end : (e : EndTree) (l : Likely) → e.likely ≡ l → with_likely e l ≡ e
same_end e l h = ap (with_likely e) (sym h)

-- the steps of the line, each with what it gives
abbrev kinded : List ℕ → Option Kind → Option (Kind × List ℕ)
kinded r o = option_map (λ k. (k, r)) o

abbrev controlled : Option (Kind × List ℕ) → Option ((Kind × Option ℕ) × List ℕ)
controlled o = o >>= λ k. control_at k.0 k.1 >>= λ c. Some ((k.0, c.0), c.1)

abbrev with_control : Kind → Option (Option ℕ × List ℕ) → Option ((Kind × Option ℕ) × List ℕ)
with_control k o = o >>= λ c. Some ((k, c.0), c.1)

abbrev led : Option ((Kind × Option ℕ) × List ℕ) → Option EndTree
led o = o >>= λ k. succs_at k.0.0 k.1 >>= λ s. groups_at s.1 >>= λ g. Some (record { kind = k.0.0; control = k.0.1; succs = s.0; likely = likely_of k.0.0 (mark_of g) })

abbrev with_succs : Kind → Option ℕ → Option (List ℕ × List ℕ) → Option EndTree
with_succs k c o = o >>= λ s. groups_at s.1 >>= λ g. Some (record { kind = k; control = c; succs = s.0; likely = likely_of k (mark_of g) })

abbrev with_groups : Kind → Option ℕ → List ℕ → Option (List (List ℕ)) → Option EndTree
with_groups k c ns o = o >>= λ g. Some (record { kind = k; control = c; succs = ns; likely = likely_of k (mark_of g) })

pub end_reads : (line : List ℕ) (e : EndTree) → Spells IsEndLine line e → end_at line ≡ Some e
unfolding end_at front_at kind_at
end_reads line e (parts, laid, (control, succs, groups, inside, spelled, has, leads, grouped, likely)) =
    let k = subst (λ ps. Lays ps line) spelled laid in
    let b = kind_bytes e.kind in
    let halts = groups_halt is_word_byte groups inside bracket_halts grouped in
    let w = word_reads (kind_word e.kind) (control ++ (succs ++ groups)) line b.0 b.1
    (control_halts e.kind control e.control (succs ++ groups) (succs_halt is_word_byte e.kind succs e.succs groups minus_halts arrow_byte_halts halts leads) has) k in
    let c = control_read e.kind (kind_word e.kind) control e.control (succs ++ groups) w.rest has
    (succs_halt is_ascii_digit e.kind succs e.succs groups refl refl (groups_halt is_ascii_digit groups inside refl grouped) leads) w.apart w.laid in
    let s = succs_read e.kind succs c.0 e.succs groups leads (groups_end 98 groups inside refl grouped) c.2 in
    ap (λ x. led (controlled (kinded x.1 (kind_of x.0)))) w.is
    ∙ ap (λ o. led (controlled (kinded w.rest o))) (kind_again e.kind)
    ∙ ap (λ o. led (with_control e.kind o)) c.1
    ∙ ap (with_succs e.kind e.control) s.1
    ∙ ap (with_groups e.kind e.control e.succs) (groups_reads groups inside s.0 grouped s.2)
    ∙ ap Some (same_end e (likely_of e.kind (mark_of inside)) likely)

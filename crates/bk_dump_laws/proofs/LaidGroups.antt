-- Lines laid out by parts: groups in round brackets, and those that end a line.
use Rattle.std.proofs.Common.{◌≡◌, ◌≢◌, ℕ, zero, suc, ◌+◌, List, [], ◌∷◌, ◌++◌, length, take, drop, ap, ◌∙◌, sym, refl, subst, arith, append_assoc, Bool, true, false, cond, Option, Some, None}
use Rattle.std.specs.Prelude.{codes, ◌==◌, not, nat_lt}
use Rattle.std.specs.List.{AllByRecursion, AllZip, position_or_len}
use Rattle.std.specs.Option.{option_map, option_map_or}
use Rattle.std.proofs.lemmas.Bool.Decides.{nat_tests}
use Rattle.bk_dump.specs.Front.{◌>>=◌, after, mark_at, onto, many, every, at_end, is_done, cut_at, up_to}
use Rattle.bk_dump.specs.Words.{group_at}
use Rattle.bk_dump.specs.Values.{groups_at}
use Rattle.bk_dump.specs.Parts.{Part, mark, AreBlanks, Lays, IsGroup}
use Rattle.bk_dump.proofs.Every.{every_none, every_some}
use Rattle.bk_dump.proofs.Shrinking.{bind_some, map_some, if_true, group_shrinks}
use Rattle.bk_dump_laws.proofs.Laying.{some_is, done_blanks, blanks_done, blank_empty, mark_gap, mark_over}

abbrev is_end : ℕ → Bool
is_end c = c == 41

abbrev Closed : List ℕ → Type 0
Closed inside = AllByRecursion (λ c. c ≢ 41) inside

abbrev past : ℕ → List ℕ × List ℕ → List ℕ × List ℕ
past c x = (c ∷ x.0, x.1)

one_less : (m n : ℕ) → nat_lt (1 + m) (suc n) ≡ nat_lt m n
one_less m n = grind (arith, nat_tests)

cut_step : (c n : ℕ) (text : List ℕ) (b : Bool) → cut_at (cond b (Some (1 + n)) None) (c ∷ text) ≡ option_map (past c) (cut_at (cond b (Some n) None) text)
cut_step c n text true = ap (λ k. Some (take k (c ∷ text), drop (suc k) (c ∷ text))) (let q : 1 + n ≡ suc n = omega arith in q)
cut_step c n text false = refl

up_to_more : (c : ℕ) (text : List ℕ) → is_end c ≡ false → up_to 41 (c ∷ text) ≡ option_map (past c) (up_to 41 text)
unfolding up_to
up_to_more c text h =
    let n = position_or_len is_end text in
    ap (λ b. cut_at (cond (nat_lt (cond (not b) (1 + n) 0) (suc (length text))) (Some (cond (not b) (1 + n) 0)) None) (c ∷ text)) h
    ∙ ap (λ b. cut_at (cond b (Some (1 + n)) None) (c ∷ text)) (one_less n (length text))
    ∙ cut_step c n text (nat_lt n (length text))

more_than_none : (n : ℕ) → nat_lt 0 (suc n) ≡ true
more_than_none n = grind (arith, nat_tests)

up_to_here : (c : ℕ) (text : List ℕ) → is_end c ≡ true → up_to 41 (c ∷ text) ≡ Some ([], text)
unfolding up_to
up_to_here c text h =
    let n = position_or_len is_end text in
    ap (λ b. cut_at (cond (nat_lt (cond (not b) (1 + n) 0) (suc (length text))) (Some (cond (not b) (1 + n) 0)) None) (c ∷ text)) h
    ∙ ap (λ b. cut_at (cond b (Some 0) None) (c ∷ text)) (more_than_none (length text))

up_to_none : up_to 41 [] ≡ None
unfolding up_to
up_to_none = refl

no_end : (c : ℕ) → is_end c ≡ false → c ≢ 41
no_end c h = λ e. grind (arith, nat_tests)

not_end : (c : ℕ) → c ≢ 41 → is_end c ≡ false
not_end c h = grind (arith, nat_tests)

is_41 : (c : ℕ) → is_end c ≡ true → c ≡ 41
is_41 c h = grind (arith, nat_tests)

-- what stands before the first `)`
abbrev IsCut : List ℕ → List ℕ → List ℕ → Type 0
IsCut text l r = (text ≡ l ++ (41 ∷ r)) × Closed l

cut_more : (c : ℕ) (text l r : List ℕ) (b : Bool) → is_end c ≡ b → ((k s : List ℕ) → up_to 41 text ≡ Some (k, s) → IsCut text k s) → up_to 41 (c ∷ text) ≡ Some (l, r) → IsCut (c ∷ text) l r
cut_more c text l r true e f h =
    let same = some_is ([], text) (l, r) (sym (up_to_here c text e) ∙ h) in
    let front : [] ≡ l = ap (λ x. x.0) same in
    let rest : text ≡ r = ap (λ x. x.1) same in
    (ap (λ d. d ∷ text) (is_41 c e) ∙ ap (λ t. 41 ∷ t) rest ∙ ap (λ t. t ++ (41 ∷ r)) front, subst Closed front tt)
cut_more c text l r false e f h =
    let m = map_some (past c) (up_to 41 text) (l, r) (sym (up_to_more c text e) ∙ h) in
    let b = f m.0.0 m.0.1 m.1 in
    let front : c ∷ m.0.0 ≡ l = ap (λ x. x.0) m.2 in
    let rest : m.0.1 ≡ r = ap (λ x. x.1) m.2 in
    (ap (λ t. c ∷ t) b.0 ∙ ap (λ t. t ++ (41 ∷ m.0.1)) front ∙ ap (λ t. l ++ (41 ∷ t)) rest, subst Closed front (no_end c e, b.1))

cut_is : (text l r : List ℕ) → up_to 41 text ≡ Some (l, r) → IsCut text l r
cut_is [] l r h = absurd (let e = sym up_to_none ∙ h in cc)
cut_is (c ∷ text) l r h = cut_more c text l r (is_end c) refl (λ k s e. cut_is text k s e) h

cut_over : (l r : List ℕ) → Closed l → up_to 41 (l ++ (41 ∷ r)) ≡ Some (l, r)
cut_over [] r h = up_to_here 41 r refl
cut_over (c ∷ l) r h = up_to_more c (l ++ (41 ∷ r)) (not_end c h.0) ∙ ap (option_map (past c)) (cut_over l r h.1)

abbrev pub group_of : List ℕ → Part
group_of inside = mark (codes "(" ++ (inside ++ codes ")"))

regrouped : (gap inside r : List ℕ) → gap ++ (codes "(" ++ (inside ++ (41 ∷ r))) ≡ gap ++ ((codes "(" ++ (inside ++ codes ")")) ++ r)
regrouped gap inside r = simp append_assoc

-- a group that is read is laid out, and the other way round
pub record LaysGroup (text inside r : List ℕ) : Type 0 where
  pub is : IsGroup (group_of inside) inside
  pub lays : (more : List Part) → Lays more r → Lays (group_of inside ∷ more) text

pub group_lays : (text inside r : List ℕ) → group_at text ≡ Some (inside, r) → LaysGroup text inside r
unfolding group_at
group_lays text inside r h =
    let a = bind_some (mark_at (codes "(") text) (up_to 41) (inside, r) h in
    let g = mark_gap (codes "(") text a.0 a.1 in
    let b = cut_is a.0 inside r a.2 in
    record {
      is = record { spelled = refl; closed = b.1 };
      lays = λ more l. (g.0, r, g.1 ∙ ap (λ t. g.0 ++ (codes "(" ++ t)) b.0 ∙ regrouped g.0 inside r, g.2, tt, l);
    }

pub group_reads : (part : Part) (inside : List ℕ) (more : List Part) (text : List ℕ) → IsGroup part inside → Lays (part ∷ more) text → (r : List ℕ) × (group_at text ≡ Some (inside, r)) × Lays more r
unfolding group_at
group_reads part inside more text h l =
    let k : Lays (group_of inside ∷ more) text = subst (λ p. Lays (p ∷ more) text) h.spelled l in (
      k.1,
      ap (λ t. mark_at (codes "(") t >>= up_to 41) (k.2 ∙ sym (regrouped k.0 inside k.1))
          ∙ ap (λ o. o >>= up_to 41) (mark_over 40 [] k.0 (inside ++ (41 ∷ k.1)) refl k.3)
          ∙ cut_over inside k.1 h.closed,
      k.5,
    )

no_group : (text : List ℕ) → AreBlanks text → group_at text ≡ None
unfolding group_at mark_at after
no_group text h = ap (λ t. after (codes "(") t >>= up_to 41) (blank_empty text h)

-- groups that end a line

abbrev LaidGroups : List (List ℕ) → List ℕ → Type 0
LaidGroups gs text = (parts : List Part) × AllZip IsGroup parts gs × Lays parts text

groups_step : (m : ℕ) (text : List ℕ) (o : Option (List ℕ × List ℕ)) → group_at text ≡ o → ((t : List ℕ) → AreBlanks (many group_at m t).1 → LaidGroups (many group_at m t).0 t)
    → AreBlanks (option_map_or (λ x. onto x.0 (many group_at m x.1)) o ([], text)).1 → LaidGroups (option_map_or (λ x. onto x.0 (many group_at m x.1)) o ([], text)).0 text
groups_step m text None e f l = ([], tt, l)
groups_step m text (Some x) e f l =
    let g = group_lays text x.0 x.1 e in
    let b = f x.1 l in
    (group_of x.0 ∷ b.0, (g.is, b.1), g.lays b.0 b.2)

many_groups : (m : ℕ) (text : List ℕ) → AreBlanks (many group_at m text).1 → LaidGroups (many group_at m text).0 text
unfolding many
many_groups zero text l = ([], tt, l)
many_groups (suc m) text l = groups_step m text (group_at text) refl (λ t k. many_groups m t k) l

every_group : (text : List ℕ) → AreBlanks (every group_at text).1 → LaidGroups (every group_at text).0 text
unfolding every
every_group text l = many_groups (length text) text l

pub groups_lays : (text : List ℕ) (gs : List (List ℕ)) → groups_at text ≡ Some gs → LaidGroups gs text
unfolding groups_at
groups_lays text gs h =
    let q = if_true (is_done (every group_at text).1) (Some (every group_at text).0) gs h in
    subst (λ gs. LaidGroups gs text) (some_is (every group_at text).0 gs q.1) (every_group text (done_blanks (every group_at text).1 q.0))

every_reads : (parts : List Part) (gs : List (List ℕ)) (text : List ℕ) → AllZip IsGroup parts gs → Lays parts text → (r : List ℕ) × (every group_at text ≡ (gs, r)) × AreBlanks r
every_reads [] [] text h l = (text, every_none group_at text (no_group text l), l)
every_reads [] (g ∷ gs) text h l = absurd h
every_reads (p ∷ ps) [] text h l = absurd h
every_reads (p ∷ ps) (g ∷ gs) text h l =
    let f = group_reads p g ps text h.0 l in
    let b = every_reads ps gs f.0 h.1 f.2 in
    (b.0, every_some group_at group_shrinks text g f.0 f.1 ∙ ap (onto g) b.1, b.2)

pub groups_reads : (parts : List Part) (gs : List (List ℕ)) (text : List ℕ) → AllZip IsGroup parts gs → Lays parts text → groups_at text ≡ Some gs
unfolding groups_at
groups_reads parts gs text h l =
    let e = every_reads parts gs text h l in
    ap (λ x. at_end x.1 x.0) e.1 ∙ ap (λ b. cond b (Some gs) None) (blanks_done e.0 e.2)

-- Lists laid out by parts, with commas between what they hold, up to a closing bracket.
use Rattle.std.proofs.Common.{◌≡◌, ℕ, zero, suc, ◌<◌, List, [], ◌∷◌, ◌++◌, length, ap, ◌∙◌, sym, refl, subst, arith, append_assoc, Bool, false, Option, Some, None}
use Rattle.std.specs.Prelude.{codes}
use Rattle.std.specs.List.{AllZip}
use Rattle.std.specs.Option.{option_map, option_map_or}
use Rattle.bk_dump.specs.Front.{◌>>=◌, mark_at, onto, many, every}
use Rattle.bk_dump.specs.Words.{is_name_byte, is_plain_byte}
use Rattle.bk_dump.specs.Headers.{to_bracket}
use Rattle.bk_dump.specs.Parts.{Part, mark, Lays, behind_commas, listed}
use Rattle.bk_dump.proofs.Every.{Shrinks, every_none, every_some}
use Rattle.bk_dump.proofs.Shrinking.{bind_some, map_some}
use Rattle.bk_dump_laws.proofs.Laying.{some_is, mark_reads, mark_lays, other_mark, Halts}
use Rattle.bk_dump_laws.proofs.LaidNumbers.{NoWord}

-- what is read at the front of a text, and what is behind it
pub record LaysItem {A : Type 0} (is : List Part → A → Type 0) (text : List ℕ) (x : A) (r : List ℕ) : Type 0 where
  pub parts : List Part
  pub item : is parts x
  pub lays : (more : List Part) → NoWord more → Lays more r → Lays (parts ++ more) text

pub record ReadsItem {A : Type 0} (read : Option (A × List ℕ)) (x : A) (more : List Part) : Type 0 where
  pub rest : List ℕ
  pub is : read ≡ Some (x, rest)
  pub laid : Lays more rest

-- a reader of what ends in a word, which is read exactly where its parts spell it
pub record Item {A : Type 0} (read : List ℕ → Option (A × List ℕ)) (is : List Part → A → Type 0) : Type 0 where
  pub lays : (text : List ℕ) (x : A) (r : List ℕ) → read text ≡ Some (x, r) → LaysItem is text x r
  pub reads : (parts : List Part) (x : A) (more : List Part) (text : List ℕ) → is parts x → Halts is_plain_byte more → Lays (parts ++ more) text → ReadsItem (read text) x more

abbrev pub next_at : {A : Type 0} → (List ℕ → Option (A × List ℕ)) → List ℕ → Option (A × List ℕ)
next_at read text = mark_at (codes ",") text >>= read

-- what is read behind commas
pub record LaysEach {A : Type 0} (is : List Part → A → Type 0) (text : List ℕ) (xs : List A) (r : List ℕ) : Type 0 where
  pub each : List (List Part)
  pub items : AllZip is each xs
  pub lays : (more : List Part) → NoWord more → Lays more r → Lays (behind_commas each ++ more) text

pub commas_word : (each : List (List Part)) (more : List Part) → NoWord more → NoWord (behind_commas each ++ more)
commas_word [] more h = h
commas_word (parts ∷ each) more h = tt

pub commas_halt : (p : ℕ → Bool) (each : List (List Part)) (more : List Part) → p 44 ≡ false → Halts p more → Halts p (behind_commas each ++ more)
commas_halt p [] more e h = h
commas_halt p (parts ∷ each) more e h = e

many_step : {A : Type 0} (read : List ℕ → Option (A × List ℕ)) (is : List Part → A → Type 0) (i : Item read is) (m : ℕ) (text : List ℕ) (o : Option (A × List ℕ)) → next_at read text ≡ o
    → ((t : List ℕ) → LaysEach is t (many (next_at read) m t).0 (many (next_at read) m t).1)
    → LaysEach is text (option_map_or (λ x. onto x.0 (many (next_at read) m x.1)) o ([], text)).0 (option_map_or (λ x. onto x.0 (many (next_at read) m x.1)) o ([], text)).1
many_step read is i m text None e f = record { each = []; items = tt; lays = λ more w l. l }
many_step read is i m text (Some x) e f =
    let a = bind_some (mark_at (codes ",") text) read x e in
    let n = i.lays a.0 x.0 x.1 a.2 in
    let b = f x.1 in
    record {
      each = n.parts ∷ b.each;
      items = (n.item, b.items);
      lays = λ more w l.
          mark_lays (codes ",") ((n.parts ++ behind_commas b.each) ++ more) text a.0 a.1
          (subst (λ ps. Lays ps a.0) (sym (append_assoc n.parts (behind_commas b.each) more)) (n.lays (behind_commas b.each ++ more) (commas_word b.each more w) (b.lays more w l)));
    }

many_lays : {A : Type 0} (read : List ℕ → Option (A × List ℕ)) (is : List Part → A → Type 0) (i : Item read is) (m : ℕ) (text : List ℕ) → LaysEach is text (many (next_at read) m text).0 (many (next_at read) m text).1
unfolding many
many_lays read is i zero text = record { each = []; items = tt; lays = λ more w l. l }
many_lays read is i (suc m) text = many_step read is i m text (next_at read text) refl (λ t. many_lays read is i m t)

pub commas_lay : {A : Type 0} (read : List ℕ → Option (A × List ℕ)) (is : List Part → A → Type 0) (i : Item read is) (text : List ℕ) → LaysEach is text (every (next_at read) text).0 (every (next_at read) text).1
unfolding every
commas_lay read is i text = many_lays read is i (length text) text

pub comma_halts : is_plain_byte 44 ≡ false
unfolding is_plain_byte is_name_byte
comma_halts = refl

-- what is laid out behind commas is read, where no more is read behind it
pub commas_read : {A : Type 0} (read : List ℕ → Option (A × List ℕ)) (is : List Part → A → Type 0) (i : Item read is) (s : Shrinks (next_at read)) (each : List (List Part)) (xs : List A) (more : List Part) (text : List ℕ)
    → AllZip is each xs → Halts is_plain_byte more → ((t : List ℕ) → Lays more t → next_at read t ≡ None) → Lays (behind_commas each ++ more) text
    → ReadsItem (Some (every (next_at read) text)) xs more
commas_read read is i s [] [] more text z h n l = record { rest = text; is = ap Some (every_none (next_at read) text (n text l)); laid = l }
commas_read read is i s [] (x ∷ xs) more text z h n l = absurd z
commas_read read is i s (ps ∷ each) [] more text z h n l = absurd z
commas_read read is i s (ps ∷ each) (x ∷ xs) more text z h n l =
    let m = mark_reads 44 [] ((ps ++ behind_commas each) ++ more) text refl l in
    let f = i.reads ps x (behind_commas each ++ more) m.0 z.0 (commas_halt is_plain_byte each more comma_halts h) (subst (λ qs. Lays qs m.0) (append_assoc ps (behind_commas each) more) m.2) in
    let b = commas_read read is i s each xs more f.rest z.1 h n f.laid in
    let next : next_at read text ≡ Some (x, f.rest) = ap (λ o. o >>= read) m.1 ∙ f.is in
    record { rest = b.rest; is = ap Some (every_some (next_at read) s text x f.rest next) ∙ ap (option_map (onto x)) b.is; laid = b.laid }

-- Up to a closing bracket.

abbrev pub listed_at : {A : Type 0} → (List ℕ → Option (A × List ℕ)) → List ℕ → Option (List A × List ℕ)
listed_at read text = read text >>= λ x. to_bracket (onto x.0 (every (next_at read) x.1))

pub record LaysListed {A : Type 0} (is : List Part → A → Type 0) (text : List ℕ) (xs : List A) (r : List ℕ) : Type 0 where
  pub each : List (List Part)
  pub items : AllZip is each xs
  pub some : 0 < length xs
  pub lays : (more : List Part) → Lays more r → Lays (listed each ++ (mark (codes ")") ∷ more)) text

pub listed_lays : {A : Type 0} (read : List ℕ → Option (A × List ℕ)) (is : List Part → A → Type 0) (i : Item read is) (text : List ℕ) (xs : List A) (r : List ℕ) → listed_at read text ≡ Some (xs, r) → LaysListed is text xs r
listed_lays read is i text xs r h =
    let x = bind_some (read text) _ (xs, r) h in
    let b = map_some _ (mark_at (codes ")") (every (next_at read) x.0.1).1) (xs, r) x.2 in
    let n = i.lays text x.0.0 x.0.1 x.1 in
    let e = commas_lay read is i x.0.1 in
    let all : x.0.0 ∷ (every (next_at read) x.0.1).0 ≡ xs = ap (λ y. y.0) b.2 in
    let rest : b.0 ≡ r = ap (λ y. y.1) b.2 in
    record {
      each = n.parts ∷ e.each;
      items = subst (AllZip is (n.parts ∷ e.each)) all (n.item, e.items);
      some = subst (λ xs. 0 < length xs) all (omega arith);
      lays = λ more l.
          subst (λ ps. Lays ps text) (sym (append_assoc n.parts (behind_commas e.each) (mark (codes ")") ∷ more)))
          (n.lays (behind_commas e.each ++ (mark (codes ")") ∷ more)) (commas_word e.each (mark (codes ")") ∷ more) tt)
          (e.lays (mark (codes ")") ∷ more) tt (mark_lays (codes ")") more (every (next_at read) x.0.1).1 b.0 b.1 (subst (Lays more) (sym rest) l))));
    }

pub bracket_halts : is_plain_byte 41 ≡ false
unfolding is_plain_byte is_name_byte
bracket_halts = refl

no_comma : {A : Type 0} (read : List ℕ → Option (A × List ℕ)) (more : List Part) (t : List ℕ) → Lays (mark (codes ")") ∷ more) t → next_at read t ≡ None
no_comma read more t l = ap (λ o. o >>= read) (other_mark 44 [] 41 [] more t refl refl l)

pub listed_reads : {A : Type 0} (read : List ℕ → Option (A × List ℕ)) (is : List Part → A → Type 0) (i : Item read is) (s : Shrinks (next_at read)) (each : List (List Part)) (xs : List A) (more : List Part) (text : List ℕ)
    → AllZip is each xs → 0 < length xs → Lays (listed each ++ (mark (codes ")") ∷ more)) text → (r : List ℕ) × (listed_at read text ≡ Some (xs, r)) × Lays more r
listed_reads read is i s [] [] more text z h l = absurd (omega arith)
listed_reads read is i s [] (x ∷ xs) more text z h l = absurd z
listed_reads read is i s (ps ∷ each) [] more text z h l = absurd z
listed_reads read is i s (ps ∷ each) (x ∷ xs) more text z h l =
    let close = mark (codes ")") ∷ more in
    let f = i.reads ps x (behind_commas each ++ close) text z.0 (commas_halt is_plain_byte each close comma_halts bracket_halts) (subst (λ qs. Lays qs text) (append_assoc ps (behind_commas each) close) l) in
    let b = commas_read read is i s each xs close f.rest z.1 bracket_halts (no_comma read more) f.laid in
    let m = mark_reads 41 [] more b.rest refl b.laid in
    let all : every (next_at read) f.rest ≡ (xs, b.rest) = some_is (every (next_at read) f.rest) (xs, b.rest) b.is in (
      m.0,
      ap (λ o. o >>= λ x. to_bracket (onto x.0 (every (next_at read) x.1))) f.is
          ∙ ap (λ y. to_bracket (onto x y)) all
          ∙ ap (option_map (λ r. (x ∷ xs, r))) m.1,
      m.2,
    )

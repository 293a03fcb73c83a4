-- Readers that read again and again at the front of a text.
use Rattle.std.proofs.Common.{◌≡◌, ℕ, zero, suc, ◌<◌, ◌≤◌, List, [], ◌∷◌, ◌++◌, length, ap, ◌∙◌, sym, refl, arith, append_assoc, append-nil, Option, Some, None}
use Rattle.std.specs.Option.{option_map_or}
use Rattle.bk_dump.specs.Front.{many, every, onto}

-- what is left is shorter
pub record Shrinks {A : Type 0} (read : List ℕ → Option (A × List ℕ)) : Type 0 where
  pub by : (text : List ℕ) (x : A) (r : List ℕ) → read text ≡ Some (x, r) → length r < length text

-- these before others
abbrev pub behind : {A : Type 0} → List A → List A × List ℕ → List A × List ℕ
behind front more = (front ++ more.0, more.1)

stopped : {A B : Type 0} (f : A → B) (d : B) (o : Option A) → ((x : A) → o ≡ Some x → ⊥) → option_map_or f o d ≡ d
stopped f d None h = refl
stopped f d (Some x) h = absurd (h x refl)

-- one more, by what was read
one_more : {A : Type 0} (read : List ℕ → Option (A × List ℕ)) (m n : ℕ) (text : List ℕ) (o : Option (A × List ℕ)) → ((x : A × List ℕ) → o ≡ Some x → many read m x.1 ≡ many read n x.1)
    → option_map_or (λ x. onto x.0 (many read m x.1)) o ([], text) ≡ option_map_or (λ x. onto x.0 (many read n x.1)) o ([], text)
one_more read m n text None h = refl
one_more read m n text (Some x) h = ap (onto x.0) (h x refl)

many_enough : {A : Type 0} (read : List ℕ → Option (A × List ℕ)) → Shrinks read → (m n : ℕ) (text : List ℕ) → length text ≤ m → length text ≤ n → many read m text ≡ many read n text
unfolding many
many_enough read s zero zero text h g = refl
many_enough read s zero (suc n) text h g = sym (stopped _ ([], text) (read text) (λ x e. let l = s.by text x.0 x.1 e in absurd (omega arith)))
many_enough read s (suc m) zero text h g = stopped _ ([], text) (read text) (λ x e. let l = s.by text x.0 x.1 e in absurd (omega arith))
many_enough read s (suc m) (suc n) text h g = one_more read m n text (read text) (λ x e. let l = s.by text x.0 x.1 e in many_enough read s m n x.1 (omega arith) (omega arith))

many_none : {A : Type 0} (read : List ℕ → Option (A × List ℕ)) (m : ℕ) (text : List ℕ) → read text ≡ None → many read m text ≡ ([], text)
unfolding many
many_none read zero text e = refl
many_none read (suc m) text e = ap (λ o. option_map_or (λ x. onto x.0 (many read m x.1)) o ([], text)) e

many_some : {A : Type 0} (read : List ℕ → Option (A × List ℕ)) → Shrinks read → (m : ℕ) (text : List ℕ) (x : A) (r : List ℕ) → length text ≤ m → read text ≡ Some (x, r) → many read m text ≡ onto x (many read (length r) r)
unfolding many
many_some read s zero text x r h e = let l = s.by text x r e in absurd (omega arith)
many_some read s (suc m) text x r h e =
    let l = s.by text x r e in
    ap (λ o. option_map_or (λ x. onto x.0 (many read m x.1)) o ([], text)) e ∙ ap (onto x) (many_enough read s m (length r) r (omega arith) (omega arith))

-- where nothing more is read
pub every_none : {A : Type 0} (read : List ℕ → Option (A × List ℕ)) (text : List ℕ) → read text ≡ None → every read text ≡ ([], text)
unfolding every
every_none read text e = many_none read (length text) text e

-- where one more is read
pub every_some : {A : Type 0} (read : List ℕ → Option (A × List ℕ)) → Shrinks read → (text : List ℕ) (x : A) (r : List ℕ) → read text ≡ Some (x, r) → every read text ≡ onto x (every read r)
unfolding every
every_some read s text x r e = many_some read s (length text) text x r (omega arith) e

same_pair : {A B : Type 0} (a c : A) (b d : B) → a ≡ c → b ≡ d → ◌≡◌ {A = A × B} (a, b) (c, d)
same_pair a c b d e g = ap (λ x. (x, b)) e ∙ ap (λ y. (c, y)) g

-- a loop over them, those read so far in front
pub loop_ends : {A : Type 0} (read : List ℕ → Option (A × List ℕ)) (front : List A) (text : List ℕ) → read text ≡ None → behind front (every read text) ≡ (front, text)
loop_ends read front text e = ap (behind front) (every_none read text e) ∙ ap (λ xs. (xs, text)) (append-nil front)

pub loop_goes_on : {A : Type 0} (read : List ℕ → Option (A × List ℕ)) → Shrinks read → (front more : List A) (text : List ℕ) (x : A) (r : List ℕ) → more ≡ front ++ x ∷ [] → read text ≡ Some (x, r) → behind more (every read r) ≡ behind front (every read text)
loop_goes_on read s front more text x r g e =
    ap (λ xs. behind xs (every read r)) g
    ∙ ap (λ xs. (xs, (every read r).1)) (append_assoc front (x ∷ []) (every read r).0)
    ∙ ap (behind front) (sym (every_some read s text x r e))

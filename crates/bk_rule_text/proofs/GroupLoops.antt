-- Loops over the parts of groups and the bits of lines.
use Rattle.std.proofs.Common.{◌≡◌, ℕ, zero, suc, ◌+◌, ◌-◌, ◌<◌, ◌≤◌, List, [], ◌∷◌, ◌++◌, length, map, drop, get_or, Bool, ap, ◌∙◌, sym, refl, arith, append_assoc, append-nil, Option, Some, None, codes}
use Rattle.bk_rule_text.specs.Front.{◌>>=◌, after, where_marked, onto}
use Rattle.std.specs.Prelude.{if◌then◌else◌}
use Rattle.std.specs.List.{list_all}
use Rattle.std.proofs.lemmas.List.{drop_all}
use Rattle.bk_rule_text.specs.Groups.{BitTree, byte, group, part_at, parts_at, group_at, bit_at, bits_at, first_count, has_count, count_of, bytes_at, expanded}
use Rattle.bk_rule_text.specs.declared.read.group.Bit.{Bit}
use Rattle.bk_rule_text.specs.Views.{bit_of}
use Rattle.bk_rule_text.proofs.Keys.{all_map, map_append, front_of}

less : (n i : ℕ) → i < n → n - i ≡ suc (n - (i + 1))
less n i h = omega arith

done : (n i : ℕ) → n ≤ i → n - i ≡ 0
done n i h = omega arith

-- ---- parts of a group
abbrev pub Parts : Type 0
Parts = Option (List (List ℕ) × List ℕ)

-- those read so far in front of the others
abbrev pub behind : List (List ℕ) → Parts → Parts
behind front None = None
behind front (Some more) = Some (front ++ more.0, more.1)

behind_onto : (front more : List (List ℕ)) (p : List ℕ) (o : Parts) → more ≡ front ++ p ∷ [] → behind front (onto p o) ≡ behind more o
behind_onto front more p None e = refl
behind_onto front more p (Some y) e = ap (λ xs. Some (xs, y.1)) (sym (append_assoc front (p ∷ []) y.0) ∙ ap (λ xs. xs ++ y.0) (sym e))

pub nothing_read : (o : Parts) → o ≡ behind [] o
nothing_read None = refl
nothing_read (Some x) = refl

abbrev bar_at : List ℕ → ℕ → Option (List ℕ) → Parts
bar_at p n o = o >>= λ r. onto p (parts_at n r)

abbrev behind_part : List ℕ → List ℕ → ℕ → Option (List ℕ) → Parts
behind_part p r n o = where_marked o (λ s. Some (p ∷ [], s)) (bar_at p n (after (codes "|") r))

abbrev with_part : ℕ → Option (List ℕ × List ℕ) → Parts
with_part n o = o >>= λ p. behind_part p.0 p.1 n (after (codes ")") p.1)

turned : (n : ℕ) (text : List ℕ) → parts_at (suc n) text ≡ with_part n (part_at text)
unfolding parts_at
turned n text = refl

pub no_part : (n i : ℕ) (front : List (List ℕ)) (text : List ℕ) (o : Parts) → behind front (parts_at (n - i) text) ≡ o → i < n → part_at text ≡ None → o ≡ None
no_part n i front text o h l e =
    sym h ∙ ap (λ k. behind front (parts_at k text)) (less n i l) ∙ ap (behind front) (turned (n - (i + 1)) text ∙ ap (with_part (n - (i + 1))) e)

pub last_part : (n i : ℕ) (front more : List (List ℕ)) (text p r s : List ℕ) (o : Parts) → behind front (parts_at (n - i) text) ≡ o → i < n → part_at text ≡ Some (p, r) → after (codes ")") r ≡ Some s → more ≡ front ++ p ∷ [] → o ≡ Some (more, s)
last_part n i front more text p r s o h l e f g =
    sym h ∙ ap (λ k. behind front (parts_at k text)) (less n i l)
    ∙ ap (behind front) (turned (n - (i + 1)) text ∙ ap (with_part (n - (i + 1))) e ∙ ap (behind_part p r (n - (i + 1))) f)
    ∙ ap (λ xs. Some (xs, s)) (sym g)

pub no_bar : (n i : ℕ) (front : List (List ℕ)) (text p r : List ℕ) (o : Parts) → behind front (parts_at (n - i) text) ≡ o → i < n → part_at text ≡ Some (p, r) → after (codes ")") r ≡ None → after (codes "|") r ≡ None → o ≡ None
no_bar n i front text p r o h l e f g =
    sym h ∙ ap (λ k. behind front (parts_at k text)) (less n i l)
    ∙ ap (behind front) (turned (n - (i + 1)) text ∙ ap (with_part (n - (i + 1))) e ∙ ap (behind_part p r (n - (i + 1))) f ∙ ap (bar_at p (n - (i + 1))) g)

pub one_part_more : (n i : ℕ) (front more : List (List ℕ)) (text p r s : List ℕ) (o : Parts) → behind front (parts_at (n - i) text) ≡ o → i < n → part_at text ≡ Some (p, r) → after (codes ")") r ≡ None → after (codes "|") r ≡ Some s
    → more ≡ front ++ p ∷ [] → behind more (parts_at (n - (i + 1)) s) ≡ o
one_part_more n i front more text p r s o h l e f g m =
    sym (
    ap (λ k. behind front (parts_at k text)) (less n i l)
    ∙ ap (behind front) (turned (n - (i + 1)) text ∙ ap (with_part (n - (i + 1))) e ∙ ap (behind_part p r (n - (i + 1))) f ∙ ap (bar_at p (n - (i + 1))) g)
    ∙ behind_onto front more p (parts_at (n - (i + 1)) s) m
    )
    ∙ h

pub parts_end : (n i : ℕ) (front : List (List ℕ)) (text : List ℕ) (o : Parts) → behind front (parts_at (n - i) text) ≡ o → n ≤ i → o ≡ None
unfolding parts_at
parts_end n i front text o h l = sym h ∙ ap (λ k. behind front (parts_at k text)) (done n i l)

-- ---- bits of a line
no_bits : (k : ℕ) → bits_at k [] ≡ []
unfolding bits_at
no_bits zero = refl
no_bits (suc k) = refl

one_bit : (n c : ℕ) (text : List ℕ) (o : Option (List (List ℕ) × List ℕ)) → group_at (c ∷ text) ≡ o → bits_at (suc n) (c ∷ text) ≡ (bit_at o c text).0 ∷ bits_at n (bit_at o c text).1
unfolding bits_at
one_bit n c text o e = ap (λ g. (bit_at g c text).0 ∷ bits_at n (bit_at g c text).1) e

pub bits_done : (k : ℕ) (front : List BitTree) (text : List ℕ) (o : List BitTree) → front ++ bits_at k text ≡ o → length text ≡ 0 → front ≡ o
bits_done k front [] o h e = sym (append-nil front) ∙ ap (λ xs. front ++ xs) (sym (no_bits k)) ∙ h
bits_done k front (c ∷ text) o h e = absurd (omega arith)

pub bits_end : (n i : ℕ) (front : List BitTree) (text : List ℕ) (o : List BitTree) → front ++ bits_at (n - i) text ≡ o → n ≤ i → front ≡ o
unfolding bits_at
bits_end n i front text o h l = sym (append-nil front) ∙ ap (λ k. front ++ bits_at k text) (sym (done n i l)) ∙ h

pub one_bit_more : (n i : ℕ) (front more : List BitTree) (text : List ℕ) (c : ℕ) (rest : List ℕ) (g : Option (List (List ℕ) × List ℕ)) (o : List BitTree) → front ++ bits_at (n - i) text ≡ o → i < n → text ≡ c ∷ rest → group_at text ≡ g
    → more ≡ front ++ (bit_at g c rest).0 ∷ [] → more ++ bits_at (n - (i + 1)) (bit_at g c rest).1 ≡ o
one_bit_more n i front more text c rest g o h l e d m =
    ap (λ xs. xs ++ bits_at (n - (i + 1)) (bit_at g c rest).1) m
    ∙ append_assoc front ((bit_at g c rest).0 ∷ []) (bits_at (n - (i + 1)) (bit_at g c rest).1)
    ∙ ap (λ xs. front ++ xs) (sym (one_bit (n - (i + 1)) c rest g (ap group_at (sym e) ∙ d)) ∙ ap (λ t. bits_at (suc (n - (i + 1))) t) (sym e) ∙ ap (λ k. bits_at k text) (sym (less n i l)))
    ∙ h

-- ---- the bits as the code has them
first_of_all : (bs : List Bit) (i : ℕ) (b : Bit) (o : ℕ) → first_count (map bit_of (drop i bs)) ≡ o → i < length bs → b ≡ get_or bs i b → first_count (bit_of b ∷ map bit_of (drop (i + 1) bs)) ≡ o
first_of_all bs i b o h l e = sym (ap (λ xs. first_count (map bit_of xs)) (front_of bs i b l e)) ∙ h

pub group_is_first : (bs : List Bit) (i : ℕ) (b : Bit) (parts : List (List ℕ)) (o : ℕ) → first_count (map bit_of (drop i bs)) ≡ o → i < length bs → b ≡ get_or bs i b → bit_of b ≡ group parts → length parts ≡ o
unfolding first_count
group_is_first bs i b parts o h l e g = sym (ap (λ t. first_count (t ∷ map bit_of (drop (i + 1) bs))) g) ∙ first_of_all bs i b o h l e

pub byte_is_passed : (bs : List Bit) (i : ℕ) (b : Bit) (c : ℕ) (o : ℕ) → first_count (map bit_of (drop i bs)) ≡ o → i < length bs → b ≡ get_or bs i b → bit_of b ≡ byte c → first_count (map bit_of (drop (i + 1) bs)) ≡ o
unfolding first_count
byte_is_passed bs i b c o h l e g = sym (ap (λ t. first_count (t ∷ map bit_of (drop (i + 1) bs))) g) ∙ first_of_all bs i b o h l e

pub no_group : (bs : List Bit) (i : ℕ) (o : ℕ) → first_count (map bit_of (drop i bs)) ≡ o → length bs ≤ i → 1 ≡ o
unfolding first_count
no_group bs i o h l = sym (ap (λ xs. first_count (map bit_of xs)) (drop_all i bs l)) ∙ h

pub counted : (bs : List Bit) (n : ℕ) (b : Bool) → n ≡ first_count (map bit_of bs) → b ≡ list_all (λ x. has_count n (bit_of x)) bs → (if b then Some n else None) ≡ count_of (map bit_of bs)
unfolding count_of
counted bs n b e h =
    ap (λ t. if t then Some n else None) (h ∙ sym (all_map bit_of (has_count n) bs))
    ∙ ap (λ k. if list_all (has_count k) (map bit_of bs) then Some k else None) e

pub one_more_expanded : (bs : List Bit) (i k : ℕ) (b : Bit) (text more o : List ℕ) → text ++ expanded k (map bit_of (drop i bs)) ≡ o → i < length bs → b ≡ get_or bs i b → more ≡ text ++ bytes_at k (bit_of b) → more ++ expanded k (map bit_of (drop (i + 1) bs)) ≡ o
unfolding expanded
one_more_expanded bs i k b text more o h l e m =
    ap (λ xs. xs ++ expanded k (map bit_of (drop (i + 1) bs))) m
    ∙ append_assoc text (bytes_at k (bit_of b)) (expanded k (map bit_of (drop (i + 1) bs)))
    ∙ ap (λ xs. text ++ expanded k (map bit_of xs)) (sym (front_of bs i b l e))
    ∙ h

pub all_expanded : (bs : List Bit) (i k : ℕ) (text o : List ℕ) → text ++ expanded k (map bit_of (drop i bs)) ≡ o → length bs ≤ i → text ≡ o
unfolding expanded
all_expanded bs i k text o h l = sym (append-nil text) ∙ ap (λ xs. text ++ expanded k (map bit_of xs)) (sym (drop_all i bs l)) ∙ h

pub pushed : {A B : Type 0} (f : A → B) (xs ys : List A) (x : A) → ys ≡ xs ++ x ∷ [] → map f ys ≡ map f xs ++ f x ∷ []
pushed f xs ys x e = ap (map f) e ∙ map_append f xs x

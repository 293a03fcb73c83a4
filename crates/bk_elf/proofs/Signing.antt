-- Steps of the loops that read signatures.
use Rattle.std.proofs.Common.{◌≡◌, ℕ, zero, suc, ◌+◌, ◌-◌, ◌*◌, ◌/◌, ◌<◌, ◌≤◌, List, [], ◌∷◌, ◌++◌, length, drop, get_or, Option, Some, None, option_map, IsTrue, Bool, true, false, cond, count_by, inl, inr, zero-add, refl, sym, ap, ◌∙◌, arith}
use Rattle.std.proofs.lemmas.List.{drop_more, drop_all, drop-drop, append_assoc, append-nil}
use Rattle.std.specs.List.{list_all}
use Rattle.std.proofs.lemmas.List.Sums.{sum_by-cons}
use Rattle.std.proofs.Math.Nat.{div-add-mod', mul-le-mul_right}
use Rattle.bk_ops.specs.declared.types.Ty.{Ty}
use Rattle.bk_func.specs.Records.{SigRecord}
use Rattle.bk_elf.specs.declared.tables.Section.TheVariants.{Gosig, Symtab}
use Rattle.bk_elf.specs.declared.errors.LoadError.{LoadError}
use Rattle.bk_elf.specs.Lists.{each, option_cons}
use Rattle.bk_elf.specs.Loading.{type_in, types_at, sig_in, sigs_in, gosig_read, holds, is_placed, fit_before, Fails, IsAt, IsCause}
use Rattle.bk_elf.proofs.Faults.{fault_holds, fit_gosig}

-- a list of what there is, after others
abbrev pub joined : {X : Type 0} → List X → Option (List X) → Option (List X)
joined before more = option_map (λ xs. before ++ xs) more

joined_cons : {X : Type 0} (before : List X) (x : X) (more : Option (List X)) → joined before (option_cons (Some x) more) ≡ joined (before ++ x ∷ []) more
joined_cons before x None = refl
joined_cons before x (Some xs) = ap Some (sym (append_assoc before (x ∷ []) xs))

pub types_more : (before : List Ty) (codes places : List ℕ) (i : ℕ) (ty : Ty) → i < length places → type_in codes (get_or places i 0) ≡ Some ty
    → joined before (types_at codes (drop i places)) ≡ joined (before ++ ty ∷ []) (types_at codes (drop (i + 1) places))
unfolding types_at
types_more before codes places i ty lt is =
    rw (drop_more places i 0 lt, is) (joined_cons before ty (types_at codes (drop (i + 1) places)))

pub types_none : (before : List Ty) (codes places : List ℕ) (i : ℕ) → i < length places → type_in codes (get_or places i 0) ≡ None
    → joined before (types_at codes (drop i places)) ≡ None
unfolding types_at
types_none before codes places i lt is = rw (drop_more places i 0 lt, is) refl

pub types_end : (before : List Ty) (codes places : List ℕ) (i : ℕ) → length places ≤ i → joined before (types_at codes (drop i places)) ≡ Some before
unfolding types_at
types_end before codes places i le = rw (drop_all i places le) (ap Some (append-nil before))

pub sigs_more : (before : List SigRecord) (codes : List ℕ) (count k : ℕ) (words rest : List ℕ) (s : SigRecord) → k < count → sig_in codes words ≡ Some (s, rest)
    → joined before (sigs_in codes (count - k) words) ≡ joined (before ++ s ∷ []) (sigs_in codes (count - (k + 1)) rest)
unfolding sigs_in
sigs_more before codes count k words rest s lt is =
    let left : count - k ≡ suc (count - (k + 1)) = omega arith in
    rw (left, is) (joined_cons before s (sigs_in codes (count - (k + 1)) rest))

pub sigs_none : (before : List SigRecord) (codes : List ℕ) (count k : ℕ) (words : List ℕ) → k < count → sig_in codes words ≡ None
    → joined before (sigs_in codes (count - k) words) ≡ None
unfolding sigs_in
sigs_none before codes count k words lt is =
    let left : count - k ≡ suc (count - (k + 1)) = omega arith in
    rw (left, is) refl

pub sigs_end : (before : List SigRecord) (codes : List ℕ) (count k : ℕ) (words : List ℕ) → count ≤ k → length words ≡ 0
    → joined before (sigs_in codes (count - k) words) ≡ Some before
unfolding sigs_in
sigs_end before codes count k [] le e = let left : count - k ≡ zero = omega arith in rw left (ap Some (append-nil before))
sigs_end before codes count k (w ∷ words) le e = absurd (omega arith)

pub sigs_left : (before : List SigRecord) (codes : List ℕ) (count k : ℕ) (words : List ℕ) → count ≤ k → 0 < length words
    → joined before (sigs_in codes (count - k) words) ≡ None
unfolding sigs_in
sigs_left before codes count k [] le e = absurd (omega arith)
sigs_left before codes count k (w ∷ words) le e = let left : count - k ≡ zero = omega arith in rw left refl

-- what keeps the next signature from being read keeps all
pub sigs_fail : (before : List SigRecord) (codes : List ℕ) (count k : ℕ) (rest words : List ℕ) (e : LoadError) → k < count
    → joined before (sigs_in codes (count - k) rest) ≡ sigs_in codes count words → Fails (sig_in codes rest) e → Fails (sigs_in codes count words) e
sigs_fail before codes count k rest words e lt is (inl memory) = inl memory
sigs_fail before codes count k rest words e lt is (inr none) = inr (none.0, sym is ∙ sigs_none before codes count k rest lt none.1)

-- the count of functions, after one more symbol, and at the end
each_next : {X : Type 0} (f : List ℕ → X) (size n k : ℕ) (xs : List ℕ) → k < n
    → each f size (n - k) (drop (size * k) xs) ≡ f (drop (size * k) xs) ∷ each f size (n - (k + 1)) (drop (size * (k + 1)) xs)
unfolding each
each_next f size n k xs lt =
    let left : n - k ≡ suc (n - (k + 1)) = omega arith in
    let next : size * k + size ≡ size * (k + 1) = omega arith in
    rw (left, drop-drop size (size * k) xs, next) refl

pub function_more : (f : List ℕ → Bool) (size n k : ℕ) (xs : List ℕ) → k < n → f (drop (size * k) xs) ≡ true
    → count_by (λ b. b) (each f size (n - k) (drop (size * k) xs)) ≡ 1 + count_by (λ b. b) (each f size (n - (k + 1)) (drop (size * (k + 1)) xs))
function_more f size n k xs lt is =
    rw (each_next f size n k xs lt, is) (sum_by-cons (λ b. cond b 1 0) true (each f size (n - (k + 1)) (drop (size * (k + 1)) xs)))

pub other_more : (f : List ℕ → Bool) (size n k : ℕ) (xs : List ℕ) → k < n → f (drop (size * k) xs) ≡ false
    → count_by (λ b. b) (each f size (n - k) (drop (size * k) xs)) ≡ count_by (λ b. b) (each f size (n - (k + 1)) (drop (size * (k + 1)) xs))
other_more f size n k xs lt is =
    rw (each_next f size n k xs lt, is) (sum_by-cons (λ b. cond b 1 0) false (each f size (n - (k + 1)) (drop (size * (k + 1)) xs)) ∙ zero-add (count_by (λ b. b) (each f size (n - (k + 1)) (drop (size * (k + 1)) xs))))

pub functions_end : (f : List ℕ → Bool) (size n k : ℕ) (xs : List ℕ) → n ≤ k → count_by (λ b. b) (each f size (n - k) xs) ≡ 0
unfolding each
functions_end f size n k xs le = let none : n - k ≡ zero = omega arith in rw none refl

-- a piece before the last one whole lies in the list
pub piece_room : (size len k : ℕ) → k < len / size → size * k + size ≤ len
piece_room size len k lt =
    let whole = div-add-mod' len size in
    let more : (k + 1) * size ≤ len / size * size = mul-le-mul_right size (omega arith) in
    omega arith

gosig_not : (bytes : List ℕ) → gosig_read bytes ≡ None → holds bytes Gosig ≡ false
unfolding holds
gosig_not bytes none = rw none refl

gosig_holds : (bytes : List ℕ) (types : List ℕ) (sigs : List SigRecord) → gosig_read bytes ≡ Some (types, sigs) → holds bytes Gosig ≡ true
unfolding holds
gosig_holds bytes types sigs is = rw is refl

-- what keeps the signatures from being read is a cause
pub gosig_refused : (bytes : List ℕ) (place : ℕ) (e : LoadError) → IsAt bytes Gosig place → Fails (gosig_read bytes) e → IsCause bytes e
gosig_refused bytes place e h (inl memory) = inl memory
gosig_refused bytes place e h (inr none) = inr (rw none.0 (fault_holds bytes Gosig h.fit (gosig_not bytes none.1)))

-- where they are read, the section holds what it must
pub gosig_next : (bytes : List ℕ) (place : ℕ) (types : List ℕ) (sigs : List SigRecord) → IsAt bytes Gosig place → is_placed bytes Gosig ≡ true
    → gosig_read bytes ≡ Some (types, sigs) → IsTrue (fit_before bytes Symtab)
gosig_next bytes place types sigs h placed is = fit_gosig bytes h.fit placed (gosig_holds bytes types sigs is)

-- what all pieces pass, after one more, and at the end
pub all_more : (f : List ℕ → Bool) (size n k : ℕ) (xs : List ℕ) → k < n → f (drop (size * k) xs) ≡ true
    → list_all (λ b. b) (each f size (n - k) (drop (size * k) xs)) ≡ list_all (λ b. b) (each f size (n - (k + 1)) (drop (size * (k + 1)) xs))
all_more f size n k xs lt is = rw (each_next f size n k xs lt, is) refl

pub all_fails : (f : List ℕ → Bool) (size n k : ℕ) (xs : List ℕ) → k < n → f (drop (size * k) xs) ≡ false
    → list_all (λ b. b) (each f size (n - k) (drop (size * k) xs)) ≡ false
all_fails f size n k xs lt is = rw (each_next f size n k xs lt, is) refl

pub all_end : (f : List ℕ → Bool) (size n k : ℕ) (xs : List ℕ) → n ≤ k → list_all (λ b. b) (each f size (n - k) xs) ≡ true
unfolding each
all_end f size n k xs le = let none : n - k ≡ zero = omega arith in rw none refl

-- a piece before the last one lies in a list that has room for all
pub count_room : (size len n k : ℕ) → k < n → n * size ≤ len → size * k + size ≤ len
count_room size len n k lt room =
    let more : (k + 1) * size ≤ n * size = mul-le-mul_right size (omega arith) in
    omega arith

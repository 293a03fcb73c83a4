-- Functions by name, from a symbol on.
use Rattle.std.proofs.Common.{◌≡◌, ℕ, suc, ◌+◌, ◌<◌, List, [], ◌∷◌, length, drop, get_or, ap, ◌∙◌, sym, arith, drop-cons, length-drop, refl, subst, ◌≤◌, Bool, true, false, cond, Option, Some, None, ◌⊎◌, inl, inr}
use Rattle.std.specs.Prelude.{if◌then◌else◌, ◌&&◌, ◌||◌, count_by, option_map, IsNone, IfSome}
use Rattle.std.specs.List.{All, list_any}
use Rattle.std.proofs.lemmas.List.Elements.{All-drop}
use Rattle.std.proofs.lemmas.List.Sums.{sum_by-cons}
use Rattle.std.specs.Str.{bytes_eq}
use Rattle.std.proofs.lemmas.List.{drop-drop}
use Rattle.bk_func.specs.Records.{SigRecord}
use Rattle.bk_elf.specs.Records.{SymbolRecord}
use Rattle.bk_elf.specs.Functions.{with_first, function_in}

-- the symbols from a place on
from_place : (xs : List SymbolRecord) (i : ℕ) (x : SymbolRecord) → x ≡ get_or xs i x → i < length xs → drop i xs ≡ x ∷ drop (i + 1) xs
from_place xs i x e h =
    let n : suc i ≡ i + 1 = omega arith in
    drop-cons xs i x h ∙ ap (λ y. y ∷ drop (suc i) xs) (sym e) ∙ ap (λ j. x ∷ drop j xs) n

rest_of : (sigs : List SigRecord) (place : ℕ) → drop 1 (drop place sigs) ≡ drop (place + 1) sigs
rest_of sigs place = drop-drop 1 place sigs

-- past a function of another name
pub past_function : (xs : List SymbolRecord) (sigs : List SigRecord) (i place : ℕ) (name : List ℕ) (x : SymbolRecord) → x ≡ get_or xs i x → i < length xs → x.func ≡ true → bytes_eq x.name name ≡ false → function_in (drop (i + 1) xs) (drop (place + 1) sigs) name ≡ function_in (drop i xs) (drop place sigs) name
past_function xs sigs i place name x e h f n =
    let other = function_in (drop (i + 1) xs) (drop 1 (drop place sigs)) name in
    let found = with_first x.address (drop place sigs) in
    let same = function_in (drop (i + 1) xs) (drop place sigs) name in
    ap (λ l. function_in (drop (i + 1) xs) l name) (sym (rest_of sigs place))
    ∙ sym (ap (λ l. function_in l (drop place sigs) name) (from_place xs i x e h)
    ∙ ap (λ b. if b then (if bytes_eq x.name name then found else other) else same) f
    ∙ ap (λ b. if b then found else other) n)

-- past a variable
pub past_variable : (xs : List SymbolRecord) (sigs : List SigRecord) (i place : ℕ) (name : List ℕ) (x : SymbolRecord) → x ≡ get_or xs i x → i < length xs → x.func ≡ false → function_in (drop (i + 1) xs) (drop place sigs) name ≡ function_in (drop i xs) (drop place sigs) name
past_variable xs sigs i place name x e h f =
    let other = function_in (drop (i + 1) xs) (drop 1 (drop place sigs)) name in
    let found = with_first x.address (drop place sigs) in
    let same = function_in (drop (i + 1) xs) (drop place sigs) name in
    sym (ap (λ l. function_in l (drop place sigs) name) (from_place xs i x e h)
    ∙ ap (λ b. if b then (if bytes_eq x.name name then found else other) else same) f)

chosen : {A : Type 0} (b : Bool) (x y z : A) → cond b x y ≡ z → (x ≡ z) ⊎ (y ≡ z)
chosen true x y z h = inl h
chosen false x y z h = inr h

found_sig : (P : SigRecord → Type 0) (address a : ℕ) (g : SigRecord) (sigs : List SigRecord) → All P sigs → with_first address sigs ≡ Some (a, g) → P g
found_sig P address a g [] h e = cc
found_sig P address a g (s ∷ sigs) h e =
    let one : 0 < length (s ∷ sigs) = omega arith in
    let pairs : (address, s) ≡ (a, g) = cc in
    let is : s ≡ g = ap (λ (q : ℕ × SigRecord). q.1) pairs in
    subst P is (h 0 s one)

-- the signature of a function is one of the signatures
pub function_sig : (P : SigRecord → Type 0) (xs : List SymbolRecord) (sigs : List SigRecord) (name : List ℕ) (a : ℕ) (g : SigRecord) → All P sigs → function_in xs sigs name ≡ Some (a, g) → P g
function_sig P [] sigs name a g h e = cc
function_sig P (x ∷ xs) sigs name a g h e =
    elim (chosen x.func (if bytes_eq x.name name then with_first x.address sigs else function_in xs (drop 1 sigs) name) (function_in xs sigs name) (Some (a, g)) e) [
      | inl p ↦ elim (chosen (bytes_eq x.name name) (with_first x.address sigs) (function_in xs (drop 1 sigs) name) (Some (a, g)) p) [
        | inl q ↦ found_sig P x.address a g sigs h q
        | inr q ↦ function_sig P xs (drop 1 sigs) name a g (All-drop P 1 sigs h) q
      ]
      | inr p ↦ function_sig P xs sigs name a g h p
    ]

none_there : (f n r : Bool) (found other same : Option (ℕ × SigRecord)) → (f && n) || r ≡ false → (r ≡ false → other ≡ None) → (r ≡ false → same ≡ None) → cond f (cond n found other) same ≡ None
none_there true true r found other same h p q = cc
none_there true false r found other same h p q = p h
none_there false n r found other same h p q = q h

-- where no function has the name, none is found
pub none_found : (xs : List SymbolRecord) (sigs : List SigRecord) (name : List ℕ) → list_any (λ s. s.func && bytes_eq s.name name) xs ≡ false → function_in xs sigs name ≡ None
none_found [] sigs name h = refl
none_found (x ∷ xs) sigs name h =
    none_there x.func (bytes_eq x.name name) (list_any (λ s. s.func && bytes_eq s.name name) xs) (with_first x.address sigs) (function_in xs (drop 1 sigs) name) (function_in xs sigs name) h
    (none_found xs (drop 1 sigs) name) (none_found xs sigs name)

has_first : (address : ℕ) (sigs : List SigRecord) → 0 < length sigs → with_first address sigs ≡ None → ⊥
has_first address [] l h = omega arith
has_first address (g ∷ sigs) l h = cc

-- one symbol: a function, whether it has the name, and the rest
none_here : (f n r : Bool) (address rest : ℕ) (sigs : List SigRecord) (other same : Option (ℕ × SigRecord)) → cond f 1 0 + rest ≤ length sigs → cond f (cond n (with_first address sigs) other) same ≡ None → (rest ≤ length (drop 1 sigs) → other ≡ None → r ≡ false) → (rest ≤ length sigs → same ≡ None → r ≡ false) → (f && n) || r ≡ false
none_here true true r address rest sigs other same c h p q = absurd (has_first address sigs (omega arith) h)
none_here true false r address rest sigs other same c h p q = p (omega (arith, length-drop 1 sigs)) h
none_here false n r address rest sigs other same c h p q = q (omega arith) h

-- where none is found and each function has a signature, no function has the name
pub none_has : (xs : List SymbolRecord) (sigs : List SigRecord) (name : List ℕ) → count_by (λ s. s.func) xs ≤ length sigs → function_in xs sigs name ≡ None → list_any (λ s. s.func && bytes_eq s.name name) xs ≡ false
none_has [] sigs name c h = refl
none_has (x ∷ xs) sigs name c h =
    let few : cond x.func 1 0 + count_by (λ s. s.func) xs ≤ length sigs = omega (arith, sum_by-cons (λ (s : SymbolRecord). cond s.func 1 0) x xs) in
    none_here x.func (bytes_eq x.name name) (list_any (λ s. s.func && bytes_eq s.name name) xs) x.address (count_by (λ s. s.func) xs) sigs (function_in xs (drop 1 sigs) name) (function_in xs sigs name) few h
    (none_has xs (drop 1 sigs) name) (none_has xs sigs name)

-- what is known of a value by what it is mapped to

pub mapped_none : {A B : Type 0} (f : A → B) (o : Option A) (r : Option B) → option_map f o ≡ r → (IsNone o → r ≡ None) × (r ≡ None → IsNone o)
mapped_none f None r h = (λ _. sym h, λ _. refl)
mapped_none f (Some x) r h = (λ n. cc, λ n. let e : Some (f x) ≡ None = h ∙ n in cc)

pub mapped_some : {A B : Type 0} (f : A → B) (o : Option A) (r : Option B) (P : B → Type 0) → option_map f o ≡ r → ((y : B) → r ≡ Some y → P y) → IfSome o (λ x. P (f x))
mapped_some f None r P h k = tt
mapped_some f (Some x) r P h k = k (f x) (sym h)

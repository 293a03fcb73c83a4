-- The most words of the functions that are called, one call after the other.
use Rattle.std.proofs.Common.{◌≡◌, ◌∙◌, sym, ap, refl, ℕ, ◌+◌, ◌<◌, ◌≤◌, ◌==◌, ◌||◌, Bool, true, false, List, length, take, get_or, Option, Some, None, max, arith, subst, eqb-true}
use Rattle.std.specs.List.{list_any}
use Rattle.std.proofs.lemmas.Bool.Decides.{nat_tests}
use Rattle.std.proofs.lemmas.List.{take_all}
use Rattle.bk_ops.specs.declared.types.Target.{Target}
use Rattle.bk_func.specs.Records.{BlockRecord, FuncRecord, ValueRecord}
use Rattle.bk_alloc.specs.Outgoing.{AreMost, callee, calls, is_call_of, is_named, words_named}
use Rattle.bk_alloc.proofs.Growing.{any_more}

-- one function more is called
pub most_called : (t : Target) (called : ℕ → Bool) (gs : List FuncRecord) (k n w : ℕ) → AreMost t called gs n → w ≡ words_named t gs k
    → AreMost t (λ s. called s || k == s) gs (max w n)
most_called t called gs k n w m is = record {
  bound = λ s h. go s (called s) refl h;
  least = λ q b.
      let own : w ≤ q = omega (arith, is, b k (here (called k) k)) in
      let rest : n ≤ q = m.least q (λ s h. b s (ap (λ a. a || k == s) h)) in
      grind (arith, nat_tests);
}
  where
    here : (a : Bool) (x : ℕ) → (a || x == x) ≡ true
    here true x = refl
    here false x = grind (arith, nat_tests)

    go : (s : ℕ) (a : Bool) → called s ≡ a → (called s || k == s) ≡ true → words_named t gs s ≤ max w n
    go s true e h =
        let before = m.bound s e in
        grind (arith, nat_tests)
    go s false e h =
        let same : k ≡ s = eqb-true k s (ap (λ a. a || k == s) (sym e) ∙ h) in
        let one : words_named t gs s ≤ w = omega (arith, is, ap (words_named t gs) same) in
        grind (arith, nat_tests)

-- calls of the same functions have the same most words
pub most_same : (t : Target) (called own : ℕ → Bool) (gs : List FuncRecord) (n m : ℕ) → ((s : ℕ) → called s ≡ own s) → m ≡ n
    → AreMost t called gs n → AreMost t own gs m
most_same t called own gs n m same is most = subst (λ k. AreMost t own gs k) (sym is) (record {
  bound = λ s h. most.bound s (same s ∙ h);
  least = λ k b. most.least k (λ s h. b s (sym (same s) ∙ h));
})

or_no : (b : Bool) → b ≡ (b || false)
or_no true = refl
or_no false = refl

-- the value is a call of this function
pub call_taken : (t : Target) (called : ℕ → Bool) (gs : List FuncRecord) (v : ValueRecord) (k n w m : ℕ) → Some k ≡ callee v.op.family v.aux
    → w ≡ words_named t gs k → m ≡ max w n → AreMost t called gs n → AreMost t (λ s. called s || is_call_of s v) gs m
call_taken t called gs v k n w m is words most before =
    most_same t (λ s. called s || k == s) (λ s. called s || is_call_of s v) gs (max w n) m (λ s. ap (λ (o : Option ℕ). called s || is_named s o) is) most
    (most_called t called gs k n w before words)

-- it is none that passes words
pub none_taken : (t : Target) (called : ℕ → Bool) (gs : List FuncRecord) (v : ValueRecord) (n : ℕ) → None ≡ callee v.op.family v.aux
    → AreMost t called gs n → AreMost t (λ s. called s || is_call_of s v) gs n
none_taken t called gs v n is before =
    most_same t called (λ s. called s || is_call_of s v) gs n n (λ s. or_no (called s) ∙ ap (λ (o : Option ℕ). called s || is_named s o) is) refl before

-- no value yet, one value more, and all values
pub no_values : (t : Target) (called : ℕ → Bool) (gs : List FuncRecord) (vs : List ValueRecord) (n : ℕ) → AreMost t called gs n
    → AreMost t (λ s. called s || list_any (is_call_of s) (take 0 vs)) gs n
no_values t called gs vs n before = most_same t called (λ s. called s || list_any (is_call_of s) (take 0 vs)) gs n n (λ s. or_no (called s)) refl before

pub more_values : (t : Target) (called : ℕ → Bool) (gs : List FuncRecord) (vs : List ValueRecord) (i : ℕ) (v : ValueRecord) (n : ℕ) → i < length vs → v ≡ get_or vs i v
    → AreMost t (λ s. (called s || list_any (is_call_of s) (take i vs)) || is_call_of s v) gs n
    → AreMost t (λ s. called s || list_any (is_call_of s) (take (i + 1) vs)) gs n
more_values t called gs vs i v n l is most =
    most_same t (λ s. (called s || list_any (is_call_of s) (take i vs)) || is_call_of s v) (λ s. called s || list_any (is_call_of s) (take (i + 1) vs)) gs n n
    (λ s. any_more (is_call_of s) vs i v (called s) (called s || list_any (is_call_of s) (take i vs)) ((called s || list_any (is_call_of s) (take i vs)) || is_call_of s v) l is refl refl)
    refl most

pub all_values : (t : Target) (called : ℕ → Bool) (gs : List FuncRecord) (vs : List ValueRecord) (i n : ℕ) → length vs ≤ i
    → AreMost t (λ s. called s || list_any (is_call_of s) (take i vs)) gs n → AreMost t (λ s. called s || list_any (is_call_of s) vs) gs n
all_values t called gs vs i n l most = subst (λ (us : List ValueRecord). AreMost t (λ s. called s || list_any (is_call_of s) us) gs n) (take_all i vs l) most

-- the calls of one block more
pub more_blocks : (t : Target) (gs : List FuncRecord) (bs : List BlockRecord) (i : ℕ) (b : BlockRecord) (vs : List ValueRecord) (n : ℕ) → i < length bs → b ≡ get_or bs i b
    → vs ≡ b.values → AreMost t (λ s. calls (take i bs) s || list_any (is_call_of s) vs) gs n → AreMost t (calls (take (i + 1) bs)) gs n
more_blocks t gs bs i b vs n l is same most =
    most_same t (λ s. calls (take i bs) s || list_any (is_call_of s) vs) (calls (take (i + 1) bs)) gs n n
    (λ s. any_more (λ (c : BlockRecord). list_any (is_call_of s) c.values) bs i b false (calls (take i bs) s) (calls (take i bs) s || list_any (is_call_of s) vs) l is refl
    (ap (λ (us : List ValueRecord). calls (take i bs) s || list_any (is_call_of s) us) same))
    refl most

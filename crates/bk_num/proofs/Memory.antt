-- A machine's memory: a number that was written is read again, and the other bytes stay.
use Rattle.std.proofs.Common.{◌≡◌, ℕ, ◌+◌, ◌^◌, ◌<◌, ◌≤◌, List, [], length, ap, ◌∙◌, sym, subst, refl, arith, Option, Some, None, ◌⊎◌, inl, inr}
use Rattle.bk_num.specs.Bytes.{load_in, store_in, written}
use Rattle.bk_num.specs.Memory.{pool_base, data_base, or_in, read, to_stack, to_data, write}
use Rattle.bk_num.proofs.Bytes.{bounds, tried, store_there, store_elsewhere, load_elsewhere, length-written, load_written, load_same}

-- the pool ends below the data window, and this ends below the stack
pub record AreApart (pool window : List ℕ) (bottom : ℕ) : Type 0 where
  pub low : pool_base + length pool ≤ data_base
  pub high : data_base + length window ≤ bottom

-- at and above the stack's first byte the stack alone is read
pub read_stack : (pool window : List ℕ) (bottom : ℕ) (stack : List ℕ) (size a : ℕ) → AreApart pool window bottom → bottom ≤ a → 1 ≤ size → read pool window bottom stack size a ≡ load_in bottom stack size a
unfolding read
read_stack pool window bottom stack size a p h s =
    let low = p.low in
    let high = p.high in
    ap (λ o. or_in o (or_in (load_in data_base window size a) (load_in bottom stack size a))) (load_elsewhere pool_base size a pool (inr (omega arith)))
    ∙ ap (λ o. or_in o (load_in bottom stack size a)) (load_elsewhere data_base size a window (inr (omega arith)))

-- inside the data window this alone is read
pub read_data : (pool window : List ℕ) (bottom : ℕ) (stack : List ℕ) (size a : ℕ) → AreApart pool window bottom → data_base ≤ a → 1 ≤ size → a + size ≤ bottom → read pool window bottom stack size a ≡ load_in data_base window size a
unfolding read
read_data pool window bottom stack size a p h s k =
    let low = p.low in
    ap (λ o. or_in o (or_in (load_in data_base window size a) (load_in bottom stack size a))) (load_elsewhere pool_base size a pool (inr (omega arith)))
    ∙ ap (or_in (load_in data_base window size a)) (load_elsewhere bottom size a stack (inl (omega arith)))
    ∙ or_none (load_in data_base window size a)
  where
    or_none : (o : Option ℕ) → or_in o None ≡ o
    or_none None = refl
    or_none (Some n) = refl

-- a write inside the stack
pub write_stack : (window : List ℕ) (bottom : ℕ) (stack : List ℕ) (size a n : ℕ) → data_base + length window ≤ bottom → bottom ≤ a → 1 ≤ size → a + size ≤ bottom + length stack → write window bottom stack size a n ≡ Some (window, written bottom stack size a n)
unfolding write
write_stack window bottom stack size a n high h s k =
    ap (λ o. to_data stack o (to_stack window (store_in bottom stack size a n))) (store_elsewhere data_base size a n window (inr (omega arith)))
    ∙ ap (to_stack window) (store_there bottom size a n stack h k)

-- a write inside the data window
pub write_data : (window : List ℕ) (bottom : ℕ) (stack : List ℕ) (size a n : ℕ) → data_base ≤ a → a + size ≤ data_base + length window → write window bottom stack size a n ≡ Some (written data_base window size a n, stack)
unfolding write
write_data window bottom stack size a n h k = ap (λ o. to_data stack o (to_stack window (store_in bottom stack size a n))) (store_there data_base size a n window h k)

abbrev left_of : Option (List ℕ × List ℕ) → List ℕ
left_of None = []
left_of (Some p) = p.0

abbrev right_of : Option (List ℕ × List ℕ) → List ℕ
right_of None = []
right_of (Some p) = p.1

-- what a write left, with its bytes in the data window
pub record InData (window : List ℕ) (stack : List ℕ) (size a n : ℕ) (w s : List ℕ) : Type 0 where
  pub from : data_base ≤ a
  pub end : a + size ≤ data_base + length window
  pub bytes : written data_base window size a n ≡ w
  pub others : stack ≡ s

-- and with its bytes in the stack
pub record InStack (window : List ℕ) (bottom : ℕ) (stack : List ℕ) (size a n : ℕ) (w s : List ℕ) : Type 0 where
  pub from : bottom ≤ a
  pub end : a + size ≤ bottom + length stack
  pub others : window ≡ w
  pub bytes : written bottom stack size a n ≡ s

pub written_where : (window : List ℕ) (bottom : ℕ) (stack : List ℕ) (size a n : ℕ) (w s : List ℕ) → write window bottom stack size a n ≡ Some (w, s) → InData window stack size a n w s ⊎ InStack window bottom stack size a n w s
unfolding write
written_where window bottom stack size a n w s h =
    elim (tried data_base size a n window) [
      | inl d ↦ (
          let e = sym (ap (λ o. to_data stack o (to_stack window (store_in bottom stack size a n))) d.1) ∙ h in
          let b = bounds data_base size a window d.0 in
          inl (record { from = b.0; end = b.1; bytes = ap left_of e; others = ap right_of e }))
      | inr d ↦ (
          let g = sym (ap (λ o. to_data stack o (to_stack window (store_in bottom stack size a n))) d) ∙ h in
          elim (tried bottom size a n stack) [
            | inl t ↦ (
                let e = sym (ap (to_stack window) t.1) ∙ g in
                let b = bounds bottom size a stack t.0 in
                inr (record { from = b.0; end = b.1; others = ap left_of e; bytes = ap right_of e }))
            | inr t ↦ (let none : ◌≡◌ {A = Option (List ℕ × List ℕ)} None (Some (w, s)) = sym (ap (to_stack window) t) ∙ g in cc)
          ])
    ]

-- a write keeps the length of both windows
pub written_lengths : (window : List ℕ) (bottom : ℕ) (stack : List ℕ) (size a n : ℕ) (w s : List ℕ) → write window bottom stack size a n ≡ Some (w, s) → (length w ≡ length window) × (length s ≡ length stack)
written_lengths window bottom stack size a n w s h =
    elim (written_where window bottom stack size a n w s h) [
      | inl d ↦ (sym (ap length d.bytes) ∙ length-written data_base size a n window d.from d.end, sym (ap length d.others))
      | inr d ↦ (sym (ap length d.others), sym (ap length d.bytes) ∙ length-written bottom size a n stack d.from d.end)
    ]

-- the number that was written is read again
pub reads_written : (pool window : List ℕ) (bottom : ℕ) (stack : List ℕ) (size a n : ℕ) (w s : List ℕ) → AreApart pool window bottom → 1 ≤ size → n < 256 ^ size → write window bottom stack size a n ≡ Some (w, s) → read pool w bottom s size a ≡ Some n
reads_written pool window bottom stack size a n w s p one lt h =
    elim (written_where window bottom stack size a n w s h) [
      | inl d ↦ (
          let new = written data_base window size a n in
          let len = length-written data_base size a n window d.from d.end in
          let high = p.high in
          let k = d.end in
          let q : AreApart pool new bottom = record { low = p.low; high = omega (arith, len, high) } in
          subst (λ w. read pool w bottom s size a ≡ Some n) d.bytes
          (read_data pool new bottom s size a q d.from one (omega (arith, high, k)) ∙ load_written data_base size a n window d.from d.end lt))
      | inr d ↦ subst (λ w. read pool w bottom s size a ≡ Some n) d.others
          (subst (λ s. read pool window bottom s size a ≡ Some n) d.bytes
          (read_stack pool window bottom (written bottom stack size a n) size a p d.from one ∙ load_written bottom size a n stack d.from d.end lt))
    ]

-- what lies apart from a write is read as before
pub reads_apart : (pool window : List ℕ) (bottom : ℕ) (stack : List ℕ) (size width a b n : ℕ) (w s : List ℕ) → (b + width ≤ a) ⊎ (a + size ≤ b) → write window bottom stack size a n ≡ Some (w, s) → read pool w bottom s width b ≡ read pool window bottom stack width b
unfolding read
reads_apart pool window bottom stack size width a b n w s apart h =
    elim (written_where window bottom stack size a n w s h) [
      | inl d ↦ subst (λ w. read pool w bottom s width b ≡ read pool window bottom stack width b) d.bytes
          (subst (λ s. read pool (written data_base window size a n) bottom s width b ≡ read pool window bottom stack width b) d.others
          (ap (λ o. or_in (load_in pool_base pool width b) (or_in o (load_in bottom stack width b))) (load_same data_base size width a b n window d.from d.end apart)))
      | inr d ↦ subst (λ w. read pool w bottom s width b ≡ read pool window bottom stack width b) d.others
          (subst (λ s. read pool window bottom s width b ≡ read pool window bottom stack width b) d.bytes
          (ap (λ o. or_in (load_in pool_base pool width b) (or_in (load_in data_base window width b) o)) (load_same bottom size width a b n stack d.from d.end apart)))
    ]

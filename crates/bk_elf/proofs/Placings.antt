-- The sections of a framed file stand as they must.
use Rattle.std.proofs.Common.{◌≡◌, ℕ, zero, suc, ◌+◌, ◌-◌, Bool, true, false, ◌||◌, not, nat_le, List, length, take, drop, replicate, slice_range, refl, arith}
use Rattle.std.proofs.lemmas.List.{length-replicate}
use Rattle.std.proofs.lemmas.Bool.{and_from, le-leb, eq-eqb}
use Rattle.bk_ops.specs.declared.types.Target.{Target}
use Rattle.bk_elf.specs.declared.tables.Section.{Section}
use Rattle.bk_elf.specs.declared.tables.Section.TheVariants.{Null, Text, Pool, Data, Gosig, Symtab, Strtab, Shstrtab}
use Rattle.bk_elf.specs.Layout.{aligned, size_of, e_shoff, shstrtab_begin}
use Rattle.bk_elf.specs.Lists.{is_zero}
use Rattle.bk_elf.specs.Loading.{content, is_loaded, has_header, has_program_header, is_described, is_placed, holds}
use Rattle.bk_elf.specs.Object.{FitsAddress}
use Rattle.bk_elf.proofs.Framing.{Contents, sizes_in}
use Rattle.bk_elf.proofs.Standing.{Framed, held_in, begin_of, before_of}
use Rattle.bk_elf.proofs.Readings.{section_below, target_read, offset_is_read, sizes_are_read, section_sound, program_sound}

length-held : (c : Contents) (s : Section) → length (held_in c s) ≡ size_of (sizes_in c) s
length-held c Null = refl
length-held c Text = refl
length-held c Pool = refl
length-held c Data = refl
length-held c Gosig = refl
length-held c Symtab = refl
length-held c Strtab = refl
length-held c Shstrtab = refl

-- the contents are read
pub content_read : (bytes : List ℕ) (t : Target) (c : Contents) → Framed bytes t c → FitsAddress t (e_shoff t (sizes_in c)) → (s : Section) → content bytes s ≡ held_in c s
unfolding content
content_read bytes t c f small s =
    rw (target_read bytes t c f small, sizes_are_read bytes t c f small, ← length-held c s) (f.held s)

one_header : (bytes : List ℕ) (t : Target) (c : Contents) → Framed bytes t c → FitsAddress t (e_shoff t (sizes_in c)) → (s : Section)
    → has_header bytes s (begin_of t c s) (size_of (sizes_in c) s) ≡ true
unfolding has_header
one_header bytes t c f small s =
    rw (target_read bytes t c f small, offset_is_read bytes t c f small, section_sound bytes t c f small s) refl

one_program : (bytes : List ℕ) (t : Target) (c : Contents) → Framed bytes t c → FitsAddress t (e_shoff t (sizes_in c)) → (s : Section) → is_loaded s ≡ true
    → has_program_header bytes s (begin_of t c s) (size_of (sizes_in c) s) ≡ true
unfolding has_program_header
one_program bytes t c f small s loaded =
    rw (target_read bytes t c f small, program_sound bytes t c f small s loaded) refl

where_loaded : (a b : Bool) → (a ≡ true → b ≡ true) → (not a || b) ≡ true
where_loaded true b h = h refl
where_loaded false b h = refl

described : (bytes : List ℕ) (t : Target) (c : Contents) → Framed bytes t c → FitsAddress t (e_shoff t (sizes_in c)) → (s : Section) → is_described bytes s ≡ true
unfolding is_described
described bytes t c f small s =
    rw (target_read bytes t c f small, sizes_are_read bytes t c f small)
    (and_from (has_header bytes s (begin_of t c s) (size_of (sizes_in c) s)) (not (is_loaded s) || has_program_header bytes s (begin_of t c s) (size_of (sizes_in c) s))
    (one_header bytes t c f small s)
    (where_loaded (is_loaded s) (has_program_header bytes s (begin_of t c s) (size_of (sizes_in c) s)) (one_program bytes t c f small s)))

zero-replicate : (n : ℕ) → is_zero (replicate n 0) ≡ true
zero-replicate zero = refl
zero-replicate (suc n) = zero-replicate n

free_is_zero : (bytes : List ℕ) (low n : ℕ) → take (length (replicate {A = ℕ} n 0)) (drop low bytes) ≡ replicate n 0 → is_zero (take n (drop low bytes)) ≡ true
free_is_zero bytes low n h =
    let e : take n (drop low bytes) ≡ replicate n 0 = rw (length-replicate {A = ℕ} n 0) at h in
    rw e (zero-replicate n)

-- each section stands as it must
pub placed : (bytes : List ℕ) (t : Target) (c : Contents) → Framed bytes t c → FitsAddress t (e_shoff t (sizes_in c)) → (s : Section) → is_placed bytes s ≡ true
unfolding is_placed
placed bytes t c f small s =
    let z = sizes_in c in
    let below = section_below t z s in
    let whole = f.whole in
    let inside : nat_le (begin_of t c s + size_of z s) (length bytes) ≡ true = le-leb (begin_of t c s + size_of z s) (length bytes) (omega arith) in
    let free : is_zero (slice_range bytes (before_of t c s) (begin_of t c s)) ≡ true =
    free_is_zero bytes (before_of t c s) (begin_of t c s - before_of t c s) (f.free s) in
    rw (described bytes t c f small s, target_read bytes t c f small, sizes_are_read bytes t c f small, inside, free) refl

-- and the last one is followed by the section headers
pub ended_read : (bytes : List ℕ) (t : Target) (c : Contents) → Framed bytes t c → FitsAddress t (e_shoff t (sizes_in c)) → holds bytes Shstrtab ≡ true
unfolding holds
ended_read bytes t c f small =
    let z = sizes_in c in
    let low = shstrtab_begin t z + 52 in
    let free : is_zero (slice_range bytes low (e_shoff t z)) ≡ true = free_is_zero bytes low (aligned low - low) f.last in
    let same = eq-eqb (e_shoff t z) (e_shoff t z) refl in
    rw (content_read bytes t c f small Shstrtab, target_read bytes t c f small, sizes_are_read bytes t c f small, offset_is_read bytes t c f small, same, free) refl

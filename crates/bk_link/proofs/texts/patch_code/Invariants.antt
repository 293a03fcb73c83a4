use Rattle.std.proofs.Common.{◌≡◌, length, drop}
use Rattle.bk_link.specs.Addresses.{find_in}
use Rattle.bk_link.specs.Texts.{patched_code}
use Rattle.bk_link.proofs.texts.patch_code.Given as goal

abbrev pub invariant-loop-place : goal.invariant-loop-place
invariant-loop-place l = record {
  made : patched_code l.target (find_in l.addresses) l.address l.code (drop l.place-index l.handles)
      ≡ patched_code l.target (find_in l.addresses) l.address l.fn.code l.handles;
  long : length l.code ≡ length l.fn.code;
}

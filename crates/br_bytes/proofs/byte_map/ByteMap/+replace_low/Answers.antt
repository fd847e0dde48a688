use Rattle.std.proofs.Common.{◌≡◌, ◌+◌, ◌-◌, ◌/◌, ◌%◌, IsTrue, ap, subst, ◌∙◌, arith}
use Rattle.std.specs.FinMap as map
use Rattle.br_bytes.specs.Memory.{place}
use Rattle.br_bytes.specs.Number.{low_bytes}
use Rattle.br_bytes.proofs.Whole.{whole_first, whole_rest, whole_alike, contains-with_bytes, put_lowest}
use Rattle.br_bytes.proofs.byte_map.ByteMap.«+replace_low».Goals as goal

pub replace_low-requires : goal.replace_low-requires
replace_low-requires t c = (
  omega arith,
  whole_alike c.args.self.now (c.args.a + 1) (place (c.args.a + 1)) (c.args.n - 1) (omega arith)
      (whole_rest c.args.self.now c.args.a c.args.n (c.args.n - 1) (omega arith) c.requires),
)

pub replace-requires : goal.replace-requires
replace-requires t c =
    let here : place c.args.a ≡ c.args.a = omega arith in
    rw c.replace_low.ensures
    (contains-with_bytes (low_bytes (c.args.n - 1) (c.args.v / 256)) c.args.self.now (place (c.args.a + 1)) c.args.a
    (subst (λ q. IsTrue (map.contains_key c.args.self.now q)) here
    (whole_first c.args.self.now c.args.a c.args.n (c.args.n - 1) (omega arith) c.requires)))

pub returns : goal.returns
returns t c =
    c.replace.ensures ∙ ap (λ m. map.insert m c.args.a (c.args.v % 256)) c.replace_low.ensures
    ∙ put_lowest c.args.self.now c.args.a c.args.n (c.args.n - 1) c.args.v c.ranges.a.fits (omega arith)

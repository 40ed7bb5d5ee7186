-- The statuses of the rules (RFC 1094, section 2.3.1), and checks that answer them.
use Rattle.std.specs.Prelude.{ℕ, Bool, if◌then◌else◌, List, [], ◌∷◌, Option, Some, None}

abbrev pub perm : ℕ
perm = 1

abbrev pub noent : ℕ
noent = 2

abbrev pub io : ℕ
io = 5

abbrev pub nxio : ℕ
nxio = 6

abbrev pub acces : ℕ
acces = 13

abbrev pub exist : ℕ
exist = 17

abbrev pub notdir : ℕ
notdir = 20

abbrev pub isdir : ℕ
isdir = 21

abbrev pub fbig : ℕ
fbig = 27

abbrev pub nospc : ℕ
nospc = 28

abbrev pub nametoolong : ℕ
nametoolong = 63

abbrev pub notempty : ℕ
notempty = 66

abbrev pub stale : ℕ
stale = 70

-- a check is None, or the status with which it fails
abbrev pub Check : Type 0
Check = Option ℕ

-- the check that fails with a status where a test is true
abbrev pub fails_where : ℕ → Bool → Check
fails_where status test = if test then Some status else None

-- the first check that fails decides
unfoldable pub first_failure : List Check → Check
first_failure [] = None
first_failure (Some status ∷ checks) = Some status
first_failure (None ∷ checks) = first_failure checks

-- What a reader answers of the bytes that are left, with what follows the item, or the first fault.
use Rattle.std.specs.Prelude.{ℕ, ◌+◌, ◌==◌, Bool, List, length, take, drop, Result, Ok, Err, nat_lt, if◌then◌else◌}
use Rattle.std.specs.Int.{Width, w32, byte_len, from_be_bytes}
use Rattle.sfs_base.specs.Reading.{◌>>=◌}
use Rattle.sfs_xdr.specs.declared.xdr_fault.XdrFault.{XdrFault}
use Rattle.sfs_xdr.specs.declared.xdr_fault.XdrFault.TheVariants.{Short, TooLong, NotBool}
use Rattle.sfs_xdr.specs.Items.{padding_of}

-- a number of this many bytes, the highest first
unfoldable pub number_of : Width → List ℕ → Result (ℕ × List ℕ) XdrFault
number_of w bytes =
    if nat_lt (length bytes) (byte_len w) then Err Short else Ok (from_be_bytes w (take (byte_len w) bytes), drop (byte_len w) bytes)

-- a number below 2^32
abbrev pub word_of : List ℕ → Result (ℕ × List ℕ) XdrFault
word_of bytes = number_of w32 bytes

-- a boolean
unfoldable pub boolean_of : List ℕ → Result (Bool × List ℕ) XdrFault
boolean_of bytes = do
  n ← word_of bytes
  if nat_lt 1 n.0 then Err NotBool else Ok (n.0 == 1, n.1)

-- n bytes and what fills them up
unfoldable pub opaque_of : ℕ → List ℕ → Result (List ℕ × List ℕ) XdrFault
opaque_of n bytes = if nat_lt (length bytes) (n + padding_of n) then Err Short else Ok (take n bytes, drop (n + padding_of n) bytes)

-- a length of at most max, and that many bytes and what fills them up
unfoldable pub opaque_max_of : ℕ → List ℕ → Result (List ℕ × List ℕ) XdrFault
opaque_max_of max bytes = do
  n ← word_of bytes
  if nat_lt max n.0 then Err TooLong else opaque_of n.0 n.1

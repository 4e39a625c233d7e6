-- The digest of a memory: SHA-256 of the text of its used pages, so that two machines can compare whole memories.
-- Source: FIPS 180-4, "Secure Hash Standard", SHA-256, as the crate `sha2` defines it; hexadecimal digits as the crate `hex` defines them.
-- Our choice: the text of a memory, and digits of lower case.
use Rattle.std.specs.Prelude.{ℕ, ◌*◌, Bool, not, ◌||◌, ◌==◌, List, ◌∷◌, ◌++◌}
use Rattle.std.specs.Int.{w32, to_le_bytes}
use Rattle.std.specs.List.{filter, flat_map, list_any, range_with_len}
use Rattle.sha2.specs.Sha256.{sha256}
use Rattle.hex.specs.Hex.{encode_lower}
use Rattle.memory_model.specs.Memory.{Memory, bytes_from, permission_at}
use Rattle.memory_model.specs.Sizes.{page_size, pages}

-- the bytes of a page
unfoldable pub page_bytes : Memory → ℕ → List ℕ
page_bytes m page = bytes_from m (page_size * page) page_size

-- a page with a permission or a byte other than 0
unfoldable pub is_used : Memory → ℕ → Bool
is_used m page = not (permission_at m page == 0) || list_any (λ b. not (b == 0)) (page_bytes m page)

-- a page's number in four bytes, little endian, its permission, and its bytes
unfoldable pub page_text : Memory → ℕ → List ℕ
page_text m page = to_le_bytes w32 page ++ permission_at m page ∷ page_bytes m page

-- each used page of the first n, by rising number
unfoldable pub text_below : Memory → ℕ → List ℕ
text_below m n = flat_map (page_text m) (filter (is_used m) (range_with_len 0 n))

-- each used page
abbrev pub memory_text : Memory → List ℕ
memory_text m = text_below m pages

-- 64 hexadecimal digits
abbrev pub digest_text : Memory → List ℕ
digest_text m = encode_lower (sha256 (memory_text m))

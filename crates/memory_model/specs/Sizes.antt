-- The sizes of a memory and of its pages.
-- Our choice: the numbers. 2 ^ 20 pages of 2 ^ 12 bytes are the 2 ^ 32 addresses of 32 bits.
use Rattle.std.specs.Prelude.{ℕ}

-- the bytes of a page
abbrev pub page_size : ℕ
page_size = 4096

-- the pages of a memory
abbrev pub pages : ℕ
pages = 1048576

-- the greatest permission of a page: reading, writing and executing
abbrev pub greatest_permission : ℕ
greatest_permission = 7

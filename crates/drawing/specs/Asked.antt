-- What the functions ask of their arguments, and what one answers, each clause by its name.
-- Assumes nothing.
use Rattle.std.specs.Prelude.{◌≡◌, ℕ, ◌+◌, ◌*◌, ◌/◌, ◌%◌, ◌^◌, ◌≤◌, ◌<◌}
use Rattle.drawing.specs.declared.keys.Keys.{Keys}
use Rattle.drawing.specs.Keys.{key_at}

-- the mask of an index's bits and how far it is moved; a key of a word, of so many, and that it is found
pub record Moved (m k : ℕ) : Type 0 where
  pub mask : m < 2 ^ 48
  pub shift : k ≤ 2

pub record Key (bits i many : ℕ) : Type 0 where
  pub place : i < 16
  pub inside : i * bits < 64
  pub some : 0 < many

pub record IsKey (keys bits i many r : ℕ) : Type 0 where
  pub is : r ≡ keys / 2 ^ (i * bits) % many
  pub below : r < many

-- the key of a pixel, of so many bits and so many below them, and that it is found
pub record KeyAt (w s q : ℕ) : Type 0 where
  pub width : w ≤ 4
  pub subsets : s ≤ 2
  pub pixel : q < 16

pub record IsKeyAt (w s : ℕ) (keys : Keys) (q r : ℕ) : Type 0 where
  pub is : r ≡ key_at w s keys q
  pub below : r < 2 ^ (w + s)

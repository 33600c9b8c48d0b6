-- The code's forms of a byte and the rules' are one.
use Rattle.std.proofs.Common.{◌≡◌, ℕ, ◌+◌, ◌*◌, ◌%◌, ◌<◌, arith}

pub doubled : (v : ℕ) → v < 256 → v % 128 * 2 ≡ v * 2 % 256
doubled v h = omega arith

pub lowered : (v d : ℕ) → d < 256 → (d + 1) % 256 ≡ v → d ≡ (v + 255) % 256
lowered v d p e = omega arith

-- How a record's last four bytes, taken as one number, are judged.
use Rattle.std.specs.Prelude.{ℕ, ◌%◌, Bool, ◌&&◌, ltb}

-- bytes 6 and 7 are zero and byte 5 is 0 to 7; byte 4 is 0 or 1
abbrev pub end_fits : ℕ → Bool
end_fits n = ltb n 2048 && ltb (n % 256) 2

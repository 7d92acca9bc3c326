-- What is kept of bytes whose size in characters or octets has a limit.
use Rattle.std.specs.Prelude.{◌≡◌, ℕ, zero, ◌*◌, ◌^◌, ◌≤◌, true, false, List, length, Option, Some}
use Rattle.data_types.specs.declared.kept.Kept.{Kept}
use Rattle.data_types.specs.KeptBytes.{BytesWithRoom}
use Rattle.data_types.specs.Limits.{IsWithin, IsPast, left_of}

-- The bytes so far have this size. All of them are held, or they are known to be past the limit. What is held is within it, with at
-- most four bytes to each unit of size.
pub record Holds (kept : Kept) (most : Option ℕ) (size : ℕ) (bytes : List ℕ) : Type 0 where
  pub used : ℕ
  pub limit : kept.most ≡ most
  pub left : kept.left ≡ left_of most used
  pub within : IsWithin most used
  pub bound : length kept.bytes.held ≤ 4 * used
  pub few : used ≤ size
  pub whole : kept.longer ≡ false → (used ≡ size) × (kept.bytes.held ≡ bytes)
  pub past : kept.longer ≡ true → IsPast most size

-- how many bytes there may be under the limit without asking for memory, by the room that there is: where none is kept, more than any
-- count of bytes
abbrev pub room_under : Option ℕ → ℕ → ℕ
room_under (Some zero) room = 2 ^ 65
room_under most room = room

abbrev pub kept_room : Kept → ℕ
kept_room kept = room_under kept.most kept.bytes.room

-- the bytes that are kept in memory, and that room
abbrev pub kept_memory : Kept → BytesWithRoom
kept_memory kept = record { held = kept.bytes.held; room = kept_room kept }

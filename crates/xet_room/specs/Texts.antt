-- The lines that the program writes, and its exit statuses.
use Rattle.std.specs.Prelude.{ℕ, List, [], ◌∷◌, ◌++◌, codes}
use Rattle.std.specs.Fmt.{decimal}
use Rattle.hex.specs.Hex.{encode_lower}
use Rattle.xet_error.specs.declared.error.Setting.TheVariants as setting
use Rattle.xet_room.specs.declared.status.Status.{Status}
use Rattle.xet_room.specs.declared.status.Status.TheVariants.{Done, BadWords, BadStore, BadScript, NotFound, ReadFault}
use Rattle.xet_room.specs.declared.status.Status.TheVariants.{WriteFault, NoMemory, TooLong, BadBlock, BadSettings}
use Rattle.xet_room.specs.declared.status.Status.TheVariants.{BadHash, NoSource, Short, Faulty, LineTooLong}

-- the exit status
abbrev pub number_of : Status → ℕ
number_of Done = 0
number_of BadWords = 1
number_of BadStore = 2
number_of BadHash = 2
number_of BadScript = 2
number_of NotFound = 3
number_of NoSource = 3
number_of ReadFault = 4
number_of WriteFault = 5
number_of NoMemory = 6
number_of (BadSettings e) = 7
number_of TooLong = 8
number_of (Short n) = 9
number_of (Faulty n) = 10
number_of LineTooLong = 11
number_of (BadBlock k) = 12

-- the line of a status with its end, where it is the same each time; that of 7 has the setting's number
abbrev pub line : Status → List ℕ
line Done = []
line BadWords = codes "error words" ++ 10 ∷ []
line BadStore = codes "error store" ++ 10 ∷ []
line BadHash = []
line BadScript = codes "error script" ++ 10 ∷ []
line NotFound = codes "error file not found" ++ 10 ∷ []
line NoSource = []
line ReadFault = codes "error read" ++ 10 ∷ []
line WriteFault = []
line NoMemory = codes "error memory" ++ 10 ∷ []
line (BadSettings setting.NoConnection) = codes "error settings 1" ++ 10 ∷ []
line (BadSettings setting.NoTries) = codes "error settings 2" ++ 10 ∷ []
line (BadSettings setting.LeastZero) = codes "error settings 3" ++ 10 ∷ []
line (BadSettings setting.GreatestBelowLeast) = codes "error settings 4" ++ 10 ∷ []
line TooLong = codes "error input" ++ 10 ∷ []
line (Short n) = []
line (Faulty n) = []
line LineTooLong = []
line (BadBlock k) = []

-- the line of status 0 after so many bytes, with its end
abbrev pub ok_line : ℕ → List ℕ
ok_line n = codes "ok " ++ decimal n ++ 10 ∷ []

-- the line of status 12 with the number of the failed test, with its end
abbrev pub block_line : ℕ → List ℕ
block_line k = codes "error block " ++ decimal k ++ 10 ∷ []

-- the digits of some bytes, a line end, and a line
abbrev pub get_text : List ℕ → List ℕ → List ℕ
get_text bytes last = encode_lower bytes ++ 10 ∷ last

-- the line of status 2 with a hash whose chunks are others, with its end
abbrev pub hash_line : List ℕ → List ℕ
hash_line hash = codes "error hash " ++ encode_lower hash ++ 10 ∷ []

-- the line of status 9 with how many bytes a part of the file has, with its end
abbrev pub short_line : ℕ → List ℕ
short_line n = codes "error short " ++ decimal n ++ 10 ∷ []

-- the line of status 10 with how many things are wrong, with its end
abbrev pub bad_line : ℕ → List ℕ
bad_line n = codes "bad " ++ decimal n ++ 10 ∷ []

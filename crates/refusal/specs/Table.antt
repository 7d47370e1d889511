-- The table of refusals: for each fault its number, its layer and what it names, and for a load's fault where it stands.
use Rattle.std.specs.Prelude.{ℕ, Some, None, Option}
use Rattle.refusal.specs.declared.layer.Layer.{Layer}
use Rattle.refusal.specs.declared.layer.Names.{Names}
use Rattle.refusal.specs.declared.reader.ReaderFault.{ReaderFault}
use Rattle.refusal.specs.declared.reader.ReaderFault.TheVariants.{NoCommand, Incomplete}
use Rattle.refusal.specs.declared.content.ContentFault.{ContentFault}
use Rattle.refusal.specs.declared.content.ContentFault.TheVariants.{SizesOutOfRange, ConsoleOutOfRange, SecondCard, CardOutOfRange, RoundOutOfRange, HearersOutOfRange, SecondCrash, TooManyCrashes, CardMissing}
use Rattle.refusal.specs.declared.command.CommandFault.{CommandFault}
use Rattle.refusal.specs.declared.command.CommandFault.TheVariants.{Reader, NotAllowedHere, Content}
use Rattle.refusal.specs.declared.list.ListFault.{ListFault}
use Rattle.refusal.specs.declared.list.ListFault.TheVariants.{TooShort}
use Rattle.refusal.specs.declared.load.LoadFault.{LoadFault}
use Rattle.refusal.specs.declared.load.LoadFault.TheVariants.{TooLong, Command, List}

-- What is named: nothing, a console, or a console and a round.
abbrev pub nothing : Names
nothing = record { console = None; round = None; rounds_left = None }

abbrev pub of_console : ℕ → Names
of_console console = record { console = Some console; round = None; rounds_left = None }

abbrev pub of_crash : ℕ → ℕ → Names
of_crash console round = record { console = Some console; round = Some round; rounds_left = None }

abbrev pub reader_number : ReaderFault → ℕ
reader_number NoCommand = 2
reader_number Incomplete = 3

abbrev pub reader_layer : ReaderFault → Layer
reader_layer fault = Layer.Reader

abbrev pub content_number : ContentFault → ℕ
content_number SizesOutOfRange = 5
content_number (ConsoleOutOfRange console) = 6
content_number (SecondCard console) = 7
content_number (CardOutOfRange console) = 8
content_number (RoundOutOfRange console round) = 9
content_number (HearersOutOfRange console round) = 10
content_number (SecondCrash console round) = 11
content_number (TooManyCrashes console round) = 12
content_number (CardMissing console) = 13

abbrev pub content_layer : ContentFault → Layer
content_layer fault = Layer.Content

abbrev pub content_names : ContentFault → Names
content_names SizesOutOfRange = nothing
content_names (ConsoleOutOfRange console) = of_console console
content_names (SecondCard console) = of_console console
content_names (CardOutOfRange console) = of_console console
content_names (RoundOutOfRange console round) = of_crash console round
content_names (HearersOutOfRange console round) = of_crash console round
content_names (SecondCrash console round) = of_crash console round
content_names (TooManyCrashes console round) = of_crash console round
content_names (CardMissing console) = of_console console

abbrev pub command_number : CommandFault → ℕ
command_number (Reader lower) = reader_number lower
command_number NotAllowedHere = 4
command_number (Content lower) = content_number lower

abbrev pub command_layer : CommandFault → Layer
command_layer (Reader lower) = reader_layer lower
command_layer NotAllowedHere = Layer.Order
command_layer (Content lower) = content_layer lower

abbrev pub command_names : CommandFault → Names
command_names (Reader lower) = nothing
command_names NotAllowedHere = nothing
command_names (Content lower) = content_names lower

abbrev pub list_number : ListFault → ℕ
list_number TooShort = 14

abbrev pub list_layer : ListFault → Layer
list_layer fault = Layer.Lists

abbrev pub load_number : LoadFault → ℕ
load_number TooLong = 1
load_number (Command stopped) = command_number stopped.fault
load_number (List lower) = list_number lower

abbrev pub load_layer : LoadFault → Layer
load_layer TooLong = Layer.Entry
load_layer (Command stopped) = command_layer stopped.fault
load_layer (List lower) = list_layer lower

-- the place of the first byte of the command that is refused
abbrev pub load_place : LoadFault → Option ℕ
load_place TooLong = Some 0
load_place (Command stopped) = Some stopped.place
load_place (List lower) = None

-- how many commands stand before it
abbrev pub load_count : LoadFault → Option ℕ
load_count TooLong = Some 0
load_count (Command stopped) = Some stopped.count
load_count (List lower) = None

abbrev pub load_names : LoadFault → Names
load_names TooLong = nothing
load_names (Command stopped) = command_names stopped.fault
load_names (List lower) = nothing

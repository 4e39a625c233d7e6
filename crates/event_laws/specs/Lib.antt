pub mod OwnEvents

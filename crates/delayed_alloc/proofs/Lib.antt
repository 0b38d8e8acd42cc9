mod BitLaws
mod HeldLaws
mod SettleLaws
mod TurnLaws

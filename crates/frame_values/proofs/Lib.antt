pub mod ItemsTexts
